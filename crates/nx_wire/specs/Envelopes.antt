-- What a message is, by JSON-RPC 2.0.
use Rattle.std.specs.Prelude.{ℕ, List, codes, Bool, true, false, ◌||◌, Option, Some, None, is_some, cond, option_and_then}
use Rattle.serde_json.specs.Data.{Data}
use Rattle.serde_json.specs.Find.{get, as_i64, as_number, as_str}
use Rattle.nx_wire.specs.Values.{text_at}
use Rattle.nx_wire.specs.declared.envelope.Kind.{Kind}
use Rattle.nx_wire.specs.declared.envelope.Kind.TheVariants.{Request, Notice, Answer, Wrong}

-- the method that a message calls
abbrev pub method_in : Data → Option (List ℕ)
method_in message = text_at (codes "method") message

-- a whole number or a text
abbrev pub is_id : Data → Bool
is_id value = is_some (option_and_then as_i64 (as_number value)) || is_some (as_str value)

abbrev pub id_of : Data → Option Data
id_of value = cond (is_id value) (Some value) None

-- the id of a message, where that is a whole number or a text
abbrev pub id_in : Data → Option Data
id_in message = option_and_then id_of (get (codes "id") message)

-- a message with a method: with an id it is a request, without one a notice; a method that is no text, or an id that is none, is wrong
abbrev pub call_by : Bool → Bool → Bool → Kind
call_by false id read = Wrong
call_by true false read = Notice
call_by true true true = Request
call_by true true false = Wrong

-- a message without a method: with a result or an error it is an answer
abbrev pub answer_by : Bool → Kind
answer_by true = Answer
answer_by false = Wrong

-- whether something stands under a key
abbrev pub has_key : List ℕ → Data → Bool
has_key key message = is_some (get key message)

abbrev pub kind_of : Data → Kind
kind_of message =
    cond (has_key (codes "method") message) (call_by (is_some (method_in message)) (has_key (codes "id") message) (is_some (id_in message)))
    (answer_by (has_key (codes "result") message || has_key (codes "error") message))
