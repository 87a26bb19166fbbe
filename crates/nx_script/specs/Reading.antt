-- What reading finds at the front of a list of bytes, part by part. What a line is, `Grammar` says; reading
-- finds the command of a line exactly where the line is that command.
use Rattle.std.specs.Prelude.{◌≡◌, ℕ, zero, suc, Bool, ◌||◌, ◌&&◌, ◌==◌, nat_lt, if◌then◌else◌, List, [], ◌∷◌, ◌++◌, length, take, drop, codes}
use Rattle.std.specs.Prelude.{encode_utf8, Option, Some, None, option_map, option_and_then, Result, Ok, Err}
use Rattle.std.specs.List.{prefix_len, position_or_len, before_first, after_first}
use Rattle.std.specs.Option.{option_or}
use lib.Utf8.{scalar}
use Rattle.std.specs.Char.{is_ascii_digit, is_digit}
use Rattle.std.specs.Str.{chars, bytes_eq, is_utf8}
use Rattle.std.specs.Str.Parse.{digits_value}
use Rattle.nx_base.specs.Characters.{is_nc_name}
use Rattle.nx_base.specs.declared.way.Way.{Way}
use Rattle.nx_base.specs.declared.way.Way.TheVariants.{Forward, Backward, Up, BackUp, Down}
use Rattle.nx_script.specs.Grammar.{way_word}
use Rattle.nx_script.specs.declared.command.Command.{Command}
use Rattle.nx_script.specs.declared.command.Command.TheVariants.{Nothing, OpenFile, Save, Insert, Delete, Print, Errors, Slice, Stats}
use Rattle.nx_script.specs.declared.command.Command.TheVariants.{SchemaFile, SchemaNone, SchemaAuto, Complete, Goto, Move, Next, Previous}
use Rattle.nx_script.specs.declared.command.Command.TheVariants.{Position, View, Close, Make, Finish, Split, Pair, Rename}
use Rattle.nx_script.specs.declared.read.ScriptFault.{ScriptFault}
use Rattle.nx_script.specs.declared.read.ScriptFault.TheVariants.{BadCommand, NoMemory}

-- a call answers what reading finds, seen by view, unless memory runs out
abbrev pub Finds : {A B : Type 0} → (A → B) → Result A ScriptFault → Option B → Type 0
Finds view (Ok value) found = found ≡ Some (view value)
Finds view (Err BadCommand) found = found ≡ None
Finds view (Err NoMemory) found = Unit {0}

-- the next step, from what the one before found
infixl 10 ◌>>=◌
abbrev pub ◌>>=◌ : {A B : Type 0} → Option A → (A → Option B) → Option B
found >>= more = option_and_then more found

-- a space or a tab
abbrev pub is_blank : ℕ → Bool
is_blank byte = (byte == 32) || (byte == 9)

-- what follows the blanks at the front
unfoldable pub after_blanks : List ℕ → List ℕ
after_blanks bytes = drop (prefix_len is_blank bytes) bytes

-- what follows the gap at the front
unfoldable pub after_gap : List ℕ → Option (List ℕ)
after_gap bytes = if prefix_len is_blank bytes == 0 then None else Some (after_blanks bytes)

-- the number that the digits at the front spell, 18 of them at most, and what follows them
unfoldable pub digits_at : List ℕ → Option (ℕ × List ℕ)
digits_at bytes =
    let count = prefix_len is_ascii_digit bytes in
    if count == 0 then None else (if nat_lt 18 count then None else Some (digits_value 10 (take count bytes), drop count bytes))

-- the number behind a gap, and what follows it
unfoldable pub number_at : List ℕ → Option (ℕ × List ℕ)
number_at bytes = do
  rest ← after_gap bytes
  digits_at rest

-- the byte that a letter behind a backslash stands for
unfoldable pub escaped_by : ℕ → Option ℕ
escaped_by letter =
    if letter == 110 then Some 10
    else (if letter == 116 then Some 9
    else (if letter == 114 then Some 13
    else (if letter == 92 then Some 92
    else (if letter == 34 then Some 34
    else None))))

-- a digit of a number to the base 16
abbrev pub is_hex_digit : ℕ → Bool
is_hex_digit byte = is_digit byte 16

-- the code, where a closing brace follows it, and what follows the brace
unfoldable pub closed_at : ℕ → List ℕ → Option (ℕ × List ℕ)
closed_at code [] = None
closed_at code (byte ∷ rest) = if byte == 125 then Some (code, rest) else None

-- the number that hexadecimal digits spell, 6 of them at most, and what follows the brace behind them
unfoldable pub code_at : List ℕ → Option (ℕ × List ℕ)
code_at bytes =
    let count = prefix_len is_hex_digit bytes in
    if count == 0 then None else (if nat_lt 6 count then None else closed_at (digits_value 16 (take count bytes)) (drop count bytes))

-- the same behind an opening brace
unfoldable pub braced_at : List ℕ → Option (ℕ × List ℕ)
braced_at [] = None
braced_at (byte ∷ inside) = if byte == 123 then code_at inside else None

-- the bytes of the character whose code stands in braces, and what follows them
unfoldable pub scalar_at : List ℕ → Option (List ℕ × List ℕ)
scalar_at bytes = do
  found ← braced_at bytes
  if scalar found.0 then Some (encode_utf8 found.0, found.1) else None

-- the bytes that an escape stands for, its backslash left out, and what follows it
unfoldable pub escape_at : List ℕ → Option (List ℕ × List ℕ)
escape_at [] = None
escape_at (letter ∷ rest) =
    if letter == 117 then scalar_at rest else option_map (λ byte. (byte ∷ [], rest)) (escaped_by letter)

-- the bytes that the first piece stands for, and what follows it
unfoldable pub piece_at : List ℕ → Option (List ℕ × List ℕ)
piece_at [] = None
piece_at (byte ∷ rest) = if byte == 92 then escape_at rest else Some (byte ∷ [], rest)

-- the bytes in front of those that were found
abbrev pub onto : List ℕ → Option (List ℕ × List ℕ) → Option (List ℕ × List ℕ)
onto front found = option_map (λ x. (front ++ x.0, x.1)) found

-- the text that pieces up to a quote mean, no more of them than `most`, and what follows the quote
unfoldable pub pieces_within : ℕ → List ℕ → Option (List ℕ × List ℕ)
pieces_within zero bytes = None
pieces_within (suc most) [] = None
pieces_within (suc most) (byte ∷ rest) =
    if byte == 34 then Some ([], rest)
    else (piece_at (byte ∷ rest) >>= λ piece. onto piece.0 (pieces_within most piece.1))

-- the same with no such bound, since no piece is empty
unfoldable pub pieces_at : List ℕ → Option (List ℕ × List ℕ)
pieces_at bytes = pieces_within (length bytes) bytes

-- what follows a quote at the front
unfoldable pub after_quote : List ℕ → Option (List ℕ)
after_quote [] = None
after_quote (byte ∷ rest) = if byte == 34 then Some rest else None

-- the text behind a gap, and what follows it
unfoldable pub text_at : List ℕ → Option (List ℕ × List ℕ)
text_at bytes = do
  gone ← after_gap bytes
  inside ← after_quote gone
  pieces_at inside

abbrev pub is_colon : ℕ → Bool
is_colon byte = byte == 58

-- UTF-8 is a QName: an NCName stands on both sides of its first colon, or it is one without any
unfoldable pub is_qualified : List ℕ → Bool
is_qualified name =
    if nat_lt (position_or_len is_colon name) (length name)
    then is_nc_name (chars (before_first is_colon name)) && is_nc_name (chars (after_first is_colon name))
    else is_nc_name (chars name)

unfoldable pub is_qname : List ℕ → Bool
is_qname name = is_utf8 name && is_qualified name

-- the QName between quotes behind a gap, and what follows it
unfoldable pub name_at : List ℕ → Option (List ℕ × List ℕ)
name_at bytes = do
  name ← text_at bytes
  if is_qname name.0 then Some (name.0, name.1) else None

-- what follows this word, where it stands behind a gap
unfoldable pub word_at : List ℕ → List ℕ → Option (List ℕ)
word_at word bytes = do
  gone ← after_gap bytes
  if bytes_eq (take (length word) gone) word then Some (drop (length word) gone) else None

-- this way, where its word stands behind a gap, and what follows it
abbrev pub along_at : Way → List ℕ → Option (Way × List ℕ)
along_at way bytes = option_map (λ rest. (way, rest)) (word_at (way_word way) bytes)

-- the way whose word stands behind a gap, and what follows it
unfoldable pub way_at : List ℕ → Option (Way × List ℕ)
way_at bytes =
    option_or (along_at Forward bytes)
    (option_or (along_at Backward bytes)
    (option_or (along_at Up bytes)
    (option_or (along_at BackUp bytes) (along_at Down bytes))))

-- the command, where blanks alone follow
unfoldable pub ended : Command → List ℕ → Option Command
ended command bytes = if prefix_len is_blank bytes == length bytes then Some command else None

-- each command, from what follows its word
unfoldable pub open_of : List ℕ → Option Command
open_of bytes = do
  uri ← text_at bytes
  ended (OpenFile uri.0) uri.1

unfoldable pub save_of : List ℕ → Option Command
save_of bytes = do
  uri ← text_at bytes
  ended (Save uri.0) uri.1

unfoldable pub insert_of : List ℕ → Option Command
insert_of bytes = do
  at ← number_at bytes
  added ← text_at at.1
  ended (Insert at.0 added.0) added.1

unfoldable pub delete_of : List ℕ → Option Command
delete_of bytes = do
  from ← number_at bytes
  to ← number_at from.1
  ended (Delete from.0 to.0) to.1

unfoldable pub print_of : List ℕ → Option Command
print_of bytes = ended Print bytes

unfoldable pub errors_of : List ℕ → Option Command
errors_of bytes = ended Errors bytes

-- the command of a number that follows
abbrev pub numbered : (ℕ → Command) → List ℕ → Option Command
numbered command bytes = do
  number ← number_at bytes
  ended (command number.0) number.1

unfoldable pub slice_of : List ℕ → Option Command
slice_of bytes = numbered Slice bytes

unfoldable pub stats_of : List ℕ → Option Command
stats_of bytes = ended Stats bytes

unfoldable pub schema_file_of : List ℕ → Option Command
schema_file_of bytes = do
  uri ← text_at bytes
  ended (SchemaFile uri.0) uri.1

-- the command, where its second word stands there and this follows it; otherwise others are tried
abbrev pub ended_or : Command → Option (List ℕ) → Option Command → Option Command
ended_or command (Some rest) others = ended command rest
ended_or command None others = others

unfoldable pub schema_of : List ℕ → Option Command
schema_of bytes =
    ended_or SchemaNone (word_at (codes "none") bytes)
    (ended_or SchemaAuto (word_at (codes "auto") bytes) (schema_file_of bytes))

unfoldable pub complete_of : List ℕ → Option Command
complete_of bytes = numbered Complete bytes

unfoldable pub goto_of : List ℕ → Option Command
goto_of bytes = numbered Goto bytes

unfoldable pub move_of : List ℕ → Option Command
move_of bytes = do
  way ← way_at bytes
  ended (Move way.0) way.1

unfoldable pub next_of : List ℕ → Option Command
next_of bytes = ended Next bytes

unfoldable pub previous_of : List ℕ → Option Command
previous_of bytes = ended Previous bytes

unfoldable pub position_of : List ℕ → Option Command
position_of bytes = ended Position bytes

unfoldable pub view_of : List ℕ → Option Command
view_of bytes = numbered View bytes

unfoldable pub close_of : List ℕ → Option Command
close_of bytes = numbered Close bytes

-- the most that the numbers of `make` may be
unfoldable pub most_seed : ℕ
most_seed = 2147483647

unfoldable pub most_pieces : ℕ
most_pieces = 200000

unfoldable pub make_of : List ℕ → Option Command
make_of bytes = do
  seed ← number_at bytes
  pieces ← number_at seed.1
  if nat_lt most_seed seed.0 || nat_lt most_pieces pieces.0 then None else ended (Make seed.0 pieces.0) pieces.1

unfoldable pub finish_of : List ℕ → Option Command
finish_of bytes = numbered Finish bytes

unfoldable pub split_of : List ℕ → Option Command
split_of bytes = numbered Split bytes

-- the command of a number and a name that follow
abbrev pub named : (ℕ → List ℕ → Command) → List ℕ → Option Command
named command bytes = do
  at ← number_at bytes
  name ← name_at at.1
  ended (command at.0 name.0) name.1

unfoldable pub pair_of : List ℕ → Option Command
pair_of bytes = named Pair bytes

unfoldable pub rename_of : List ℕ → Option Command
rename_of bytes = named Rename bytes

-- the command of this word
unfoldable pub command_of : List ℕ → List ℕ → Option Command
command_of word bytes =
    if bytes_eq word (codes "open") then open_of bytes
    else (if bytes_eq word (codes "save") then save_of bytes
    else (if bytes_eq word (codes "insert") then insert_of bytes
    else (if bytes_eq word (codes "delete") then delete_of bytes
    else (if bytes_eq word (codes "print") then print_of bytes
    else (if bytes_eq word (codes "errors") then errors_of bytes
    else (if bytes_eq word (codes "slice") then slice_of bytes
    else (if bytes_eq word (codes "stats") then stats_of bytes
    else (if bytes_eq word (codes "schema") then schema_of bytes
    else (if bytes_eq word (codes "complete") then complete_of bytes
    else (if bytes_eq word (codes "goto") then goto_of bytes
    else (if bytes_eq word (codes "move") then move_of bytes
    else (if bytes_eq word (codes "next") then next_of bytes
    else (if bytes_eq word (codes "previous") then previous_of bytes
    else (if bytes_eq word (codes "where") then position_of bytes
    else (if bytes_eq word (codes "view") then view_of bytes
    else (if bytes_eq word (codes "close") then close_of bytes
    else (if bytes_eq word (codes "make") then make_of bytes
    else (if bytes_eq word (codes "finish") then finish_of bytes
    else (if bytes_eq word (codes "split") then split_of bytes
    else (if bytes_eq word (codes "pair") then pair_of bytes
    else (if bytes_eq word (codes "rename") then rename_of bytes
    else None)))))))))))))))))))))

-- the command of the line whose blanks at the front are left out
unfoldable pub command_at : List ℕ → Option Command
command_at [] = Some Nothing
command_at (byte ∷ rest) =
    let bytes = byte ∷ rest in
    let end = position_or_len is_blank bytes in
    if byte == 35 then Some Nothing else command_of (take end bytes) (drop end bytes)

-- the command of the line
unfoldable pub line_command : List ℕ → Option Command
line_command line = command_at (after_blanks line)
