-- The messages that are sent back. The members of an object stand in the order of their keys.
use Rattle.std.specs.Prelude.{ℕ, ◌-◌, ℤ, negsuc, List, codes}
use Rattle.serde_json.specs.Data.{Data, number, unsigned, string, object, member, no_members}
use Rattle.serde_json.specs.Find.{of_integer}
use Rattle.nx_wire.specs.declared.answer.Refusal.{Refusal}
use Rattle.nx_wire.specs.declared.answer.Refusal.TheVariants.{ParseError, InvalidRequest, MethodNotFound, InvalidParams}
use Rattle.nx_wire.specs.declared.answer.Refusal.TheVariants.{InternalError, ServerNotInitialized, ContentModified}

-- the negative number of which this is the amount
abbrev pub minus : ℕ → ℤ
minus n = negsuc (n - 1)

-- the codes of JSON-RPC 2.0 and of the protocol
abbrev pub error_code : Refusal → ℤ
error_code ParseError = minus 32700
error_code InvalidRequest = minus 32600
error_code MethodNotFound = minus 32601
error_code InvalidParams = minus 32602
error_code InternalError = minus 32603
error_code ServerNotInitialized = minus 32002
error_code ContentModified = minus 32801

abbrev pub error_words : Refusal → List ℕ
error_words ParseError = codes "the message is no JSON"
error_words InvalidRequest = codes "the message is no request"
error_words MethodNotFound = codes "the method isn't known"
error_words InvalidParams = codes "the parameters aren't those of the method"
error_words InternalError = codes "there is no memory"
error_words ServerNotInitialized = codes "the server isn't initialized"
error_words ContentModified = codes "the text of the document isn't known"

-- `"jsonrpc": "2.0"`, and what comes behind it
abbrev pub version_2 : Data
version_2 = string (codes "2.0")

-- the answer to a request: `{"jsonrpc": "2.0", "id": ID, "result": RESULT}`
abbrev pub answer_data : Data → Data → Data
answer_data id result = object (member (codes "id") id (member (codes "jsonrpc") version_2 (member (codes "result") result no_members)))

-- the answer that refuses it: `{"jsonrpc": "2.0", "id": ID, "error": {"code": CODE, "message": WORDS}}`
abbrev pub error_data : Data → Refusal → Data
error_data id refusal =
    object (member (codes "error") (object (member (codes "code") (number (of_integer (error_code refusal)))
    (member (codes "message") (string (error_words refusal)) no_members)))
    (member (codes "id") id (member (codes "jsonrpc") version_2 no_members)))

-- a notice: `{"jsonrpc": "2.0", "method": METHOD, "params": PARAMS}`
abbrev pub notice_data : List ℕ → Data → Data
notice_data method params =
    object (member (codes "jsonrpc") version_2 (member (codes "method") (string method) (member (codes "params") params no_members)))

-- a request with a number for its id
abbrev pub request_data : ℕ → List ℕ → Data → Data
request_data id method params =
    object (member (codes "id") (number (unsigned id)) (member (codes "jsonrpc") version_2
    (member (codes "method") (string method) (member (codes "params") params no_members))))
