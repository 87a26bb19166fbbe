-- What is read from a line is its command, and a command's line is read.
use Rattle.std.proofs.Common.{◌≡◌, ℕ, ◌≤◌, Bool, true, false, not, ◌&&◌, ◌||◌, eqb, ltb, List, [], ◌∷◌, ◌++◌, length, take, drop, cond, codes, Option, Some, None, Result, Ok, Err, IfOk, refl, sym, ap, subst, ◌∙◌, arith, inl, inr, append_assoc}
use Rattle.std.specs.List.{prefix_len, position_or_len, list_all}
use Rattle.std.specs.Str.{IsUtf8, bytes_eq}
use Rattle.std.proofs.lemmas.List.{append-nil, take_all, take_at, drop_at, take-append-drop}
use Rattle.std.proofs.lemmas.Option.{same_Some, cond_some}
use Rattle.std.proofs.lemmas.Bool.{eqb-true, eq-eqb, and_parts, or_parts, le-ltb, ltb-false, not-true}
use Rattle.std.proofs.lemmas.Slice.Eq.{bytes_eq-Decides}
use Rattle.nx_base.specs.declared.way.Way.{Way}
use Rattle.nx_script.specs.declared.command.Command.{Command}
use Rattle.nx_script.specs.declared.command.Command.TheVariants.{Nothing, OpenFile, Save, Insert, Delete, Print, Errors, Slice, Stats, SchemaFile, SchemaNone, SchemaAuto, Complete, Goto, Move, Next, Previous, Position, View, Close, Make, Finish, Split, Pair, Rename}
use Rattle.nx_script.specs.declared.read.ScriptFault.{ScriptFault}
use Rattle.nx_script.specs.declared.read.ScriptFault.TheVariants.{BadCommand, NoMemory}
use Rattle.nx_script.specs.Grammar.{IsBlanks, IsNothingLine, IsOpenLine, IsSaveLine, IsInsertLine, IsDeleteLine, IsPrintLine, IsErrorsLine, IsSliceLine, IsStatsLine, IsOfWords, IsSchemaFileLine, IsSchemaNoneLine, IsSchemaAutoLine, IsCompleteLine, IsGotoLine, IsMoveLine, IsNextLine, IsPreviousLine, IsPositionLine, IsViewLine, IsCloseLine, IsMakeLine, IsFinishLine, IsSplitLine, IsPairLine, IsRenameLine, IsOfNumber, IsOfName, way_word, IsLine, ReadsLine}
use Rattle.nx_script.specs.Commands.{HasFitTexts}
use Rattle.nx_script.specs.Reading.{Finds, ◌>>=◌, is_blank, after_blanks, number_at, text_at, name_at, word_at, way_at, ended, numbered, ended_or, open_of, save_of, insert_of, delete_of, print_of, errors_of, slice_of, stats_of, schema_file_of, schema_of, complete_of, goto_of, move_of, next_of, previous_of, position_of, view_of, close_of, most_seed, most_pieces, make_of, finish_of, split_of, named, pair_of, rename_of, command_of, command_at, line_command}
use Rattle.nx_script.proofs.Blanks.{chosen, found_step, Pass-from_test, FirstFails, prefix_len_is, front_passes, IsBlanks-pass, pass-IsBlanks, test-IsBlank, after_blanks_is, after_blanks_leaves, Ends, tail_ends}
use Rattle.nx_script.proofs.Numbers.{number_at_is, number_at_takes}
use Rattle.nx_script.proofs.QNames.{name_at_is, name_at_takes}
use Rattle.nx_script.proofs.Texts.{text_at_is, text_at_takes, word_utf8}
use Rattle.nx_script.proofs.Words.{word_at_is, word_at_takes, word_at_text, word_at_other, way_at_is, way_at_takes}

-- ---- the end of a line

ended_is : (command : Command) (bytes : List ℕ) → IsBlanks bytes → ended command bytes ≡ Some command
unfolding ended
ended_is command bytes h =
    let all : prefix_len is_blank bytes ≡ length bytes = ap (prefix_len is_blank) (sym (append-nil bytes)) ∙ prefix_len_is is_blank bytes [] (pass-IsBlanks bytes h) tt in
    rw (eq-eqb (prefix_len is_blank bytes) (length bytes) all) refl

ended_takes : (command : Command) (bytes : List ℕ) (c : Command) → ended command bytes ≡ Some c → (command ≡ c) × IsBlanks bytes
unfolding ended
ended_takes command bytes c e =
    let parts = cond_some (eqb (prefix_len is_blank bytes) (length bytes)) command c e in
    let all = eqb-true (prefix_len is_blank bytes) (length bytes) parts.0 in
    let whole : take (prefix_len is_blank bytes) bytes ≡ bytes = take_all (prefix_len is_blank bytes) bytes (omega arith) in
    (parts.1, subst IsBlanks whole (IsBlanks-pass (take (prefix_len is_blank bytes) bytes) (front_passes is_blank bytes)))

-- ---- the word of a command

-- the word may begin a line: its first byte is no `#`, and no byte is a blank
abbrev is_verb : List ℕ → Bool
is_verb [] = false
is_verb (b ∷ bytes) = not (eqb b 35) && list_all (λ c. not (is_blank c)) (b ∷ bytes)

Ends-not_other : (rest : List ℕ) → Ends rest → FirstFails (λ c. not (is_blank c)) rest
Ends-not_other [] h = tt
Ends-not_other (b ∷ rest) h = rw (test-IsBlank b h) refl

verb_no_blank : (verb rest : List ℕ) → is_verb verb ≡ true → FirstFails is_blank (verb ++ rest)
verb_no_blank [] rest h = absurd cc
verb_no_blank (b ∷ verb) rest h = not-true (is_blank b) (Pass-from_test (λ c. not (is_blank c)) (b ∷ verb) (and_parts (not (eqb b 35)) (list_all (λ c. not (is_blank c)) (b ∷ verb)) h).1).0

-- behind blanks
verb_at_front : (verb rest : List ℕ) → is_verb verb ≡ true → Ends rest → command_at (verb ++ rest) ≡ command_of verb rest
unfolding command_at
verb_at_front [] rest h k = absurd cc
verb_at_front (b ∷ verb) rest h k =
    let word = b ∷ verb in
    let parts = and_parts (not (eqb b 35)) (list_all (λ c. not (is_blank c)) word) h in
    let long : position_or_len is_blank (word ++ rest) ≡ length word = prefix_len_is (λ c. not (is_blank c)) word rest (Pass-from_test (λ c. not (is_blank c)) word parts.1) (Ends-not_other rest k) in
    rw (not-true (eqb b 35) parts.0, long, take_at word rest (length word) refl, drop_at word rest (length word) refl) refl

-- a line that begins with the word of a command
verb_read : (line verb rest blanks : List ℕ) → is_verb verb ≡ true → line ≡ blanks ++ verb ++ rest → IsBlanks blanks → Ends rest → line_command line ≡ command_of verb rest
unfolding line_command
verb_read line verb rest blanks h e b k =
    let behind : after_blanks line ≡ verb ++ rest = ap after_blanks (e ∙ append_assoc blanks verb rest) ∙ after_blanks_is blanks (verb ++ rest) b (verb_no_blank verb rest h) in
    ap command_at behind ∙ verb_at_front verb rest h k

-- ---- a command's line is read

nothing_is : (line : List ℕ) → IsNothingLine line → line_command line ≡ Some Nothing
unfolding line_command command_at
nothing_is line (inl blanks) = ap command_at (ap after_blanks (sym (append-nil line)) ∙ after_blanks_is line [] blanks tt)
nothing_is line (inr (blanks, rest, e, b)) = ap command_at (ap after_blanks (e ∙ append_assoc blanks (35 ∷ []) rest) ∙ after_blanks_is blanks (35 ∷ rest) b refl)

open_is : (line uri : List ℕ) → IsOpenLine uri line → line_command line ≡ Some (OpenFile uri)
unfolding command_of open_of
open_is line uri (text, t, (blanks, rest, e, b, (gap, end, e1, g, last))) =
    verb_read line (codes "open") rest blanks refl e b (tail_ends (text ∷ []) rest (gap, end, e1, g, last))
    ∙ rw (e1, text_at_is gap text end uri g t) (ended_is (OpenFile uri) end last)

save_is : (line uri : List ℕ) → IsSaveLine uri line → line_command line ≡ Some (Save uri)
unfolding command_of save_of
save_is line uri (text, t, (blanks, rest, e, b, (gap, end, e1, g, last))) =
    verb_read line (codes "save") rest blanks refl e b (tail_ends (text ∷ []) rest (gap, end, e1, g, last))
    ∙ rw (e1, text_at_is gap text end uri g t) (ended_is (Save uri) end last)

insert_is : (line : List ℕ) (at : ℕ) (added : List ℕ) → IsInsertLine at added line → line_command line ≡ Some (Insert at added)
unfolding command_of insert_of
insert_is line at added (number, text, n, t, (blanks, rest, e, b, (gap, more, e1, g, (gap2, end, e2, g2, last)))) =
    verb_read line (codes "insert") rest blanks refl e b (tail_ends (number ∷ text ∷ []) rest (gap, more, e1, g, (gap2, end, e2, g2, last)))
    ∙ rw (e1, number_at_is gap number more at g n (tail_ends (text ∷ []) more (gap2, end, e2, g2, last)), e2, text_at_is gap2 text end added g2 t) (ended_is (Insert at added) end last)

delete_is : (line : List ℕ) (from to : ℕ) → IsDeleteLine from to line → line_command line ≡ Some (Delete from to)
unfolding command_of delete_of
delete_is line from to (first, second, m, n, (blanks, rest, e, b, (gap, more, e1, g, (gap2, end, e2, g2, last)))) =
    verb_read line (codes "delete") rest blanks refl e b (tail_ends (first ∷ second ∷ []) rest (gap, more, e1, g, (gap2, end, e2, g2, last)))
    ∙ rw (e1, number_at_is gap first more from g m (tail_ends (second ∷ []) more (gap2, end, e2, g2, last)), e2, number_at_is gap2 second end to g2 n (tail_ends [] end last)) (ended_is (Delete from to) end last)

print_is : (line : List ℕ) → IsPrintLine line → line_command line ≡ Some Print
unfolding command_of print_of
print_is line (blanks, rest, e, b, last) = verb_read line (codes "print") rest blanks refl e b (tail_ends [] rest last) ∙ ended_is Print rest last

errors_is : (line : List ℕ) → IsErrorsLine line → line_command line ≡ Some Errors
unfolding command_of errors_of
errors_is line (blanks, rest, e, b, last) = verb_read line (codes "errors") rest blanks refl e b (tail_ends [] rest last) ∙ ended_is Errors rest last

-- a command of a number alone
numbered_is : (command : ℕ → Command) (line verb : List ℕ) (value : ℕ) → is_verb verb ≡ true
    → ((rest : List ℕ) → command_of verb rest ≡ numbered command rest) → IsOfNumber verb value line → line_command line ≡ Some (command value)
numbered_is command line verb value plain its (number, n, (blanks, rest, e, b, (gap, end, e1, g, last))) =
    verb_read line verb rest blanks plain e b (tail_ends (number ∷ []) rest (gap, end, e1, g, last))
    ∙ its rest
    ∙ rw (e1, number_at_is gap number end value g n (tail_ends [] end last)) (ended_is (command value) end last)

slice_is : (line : List ℕ) (count : ℕ) → IsSliceLine count line → line_command line ≡ Some (Slice count)
unfolding command_of slice_of
slice_is line count h = numbered_is Slice line (codes "slice") count refl (λ rest. refl) h

stats_is : (line : List ℕ) → IsStatsLine line → line_command line ≡ Some Stats
unfolding command_of stats_of
stats_is line (blanks, rest, e, b, last) = verb_read line (codes "stats") rest blanks refl e b (tail_ends [] rest last) ∙ ended_is Stats rest last

schema_file_is : (line uri : List ℕ) → IsSchemaFileLine uri line → line_command line ≡ Some (SchemaFile uri)
unfolding command_of schema_of schema_file_of
schema_file_is line uri (text, t, (blanks, rest, e, b, (gap, end, e1, g, last))) =
    verb_read line (codes "schema") rest blanks refl e b (tail_ends (text ∷ []) rest (gap, end, e1, g, last))
    ∙ rw (
      e1,
      word_at_text (codes "none") gap text end uri refl g t,
      word_at_text (codes "auto") gap text end uri refl g t,
      text_at_is gap text end uri g t,
    ) (ended_is (SchemaFile uri) end last)

schema_none_is : (line : List ℕ) → IsSchemaNoneLine line → line_command line ≡ Some SchemaNone
unfolding command_of schema_of
schema_none_is line (blanks, rest, e, b, (gap, end, e1, g, last)) =
    verb_read line (codes "schema") rest blanks refl e b (tail_ends (codes "none" ∷ []) rest (gap, end, e1, g, last))
    ∙ rw (e1, word_at_is (codes "none") gap end refl g) (ended_is SchemaNone end last)

schema_auto_is : (line : List ℕ) → IsSchemaAutoLine line → line_command line ≡ Some SchemaAuto
unfolding command_of schema_of
schema_auto_is line (blanks, rest, e, b, (gap, end, e1, g, last)) =
    verb_read line (codes "schema") rest blanks refl e b (tail_ends (codes "auto" ∷ []) rest (gap, end, e1, g, last))
    ∙ rw (e1, word_at_other (codes "none") (codes "auto") gap end refl g refl, word_at_is (codes "auto") gap end refl g) (ended_is SchemaAuto end last)

complete_is : (line : List ℕ) (at : ℕ) → IsCompleteLine at line → line_command line ≡ Some (Complete at)
unfolding command_of complete_of
complete_is line at h = numbered_is Complete line (codes "complete") at refl (λ rest. refl) h

goto_is : (line : List ℕ) (at : ℕ) → IsGotoLine at line → line_command line ≡ Some (Goto at)
unfolding command_of goto_of
goto_is line at h = numbered_is Goto line (codes "goto") at refl (λ rest. refl) h

move_is : (line : List ℕ) (way : Way) → IsMoveLine way line → line_command line ≡ Some (Move way)
unfolding command_of move_of
move_is line way (blanks, rest, e, b, (gap, end, e1, g, last)) =
    verb_read line (codes "move") rest blanks refl e b (tail_ends (way_word way ∷ []) rest (gap, end, e1, g, last))
    ∙ rw (e1, way_at_is way gap end g) (ended_is (Move way) end last)

next_is : (line : List ℕ) → IsNextLine line → line_command line ≡ Some Next
unfolding command_of next_of
next_is line (blanks, rest, e, b, last) = verb_read line (codes "next") rest blanks refl e b (tail_ends [] rest last) ∙ ended_is Next rest last

previous_is : (line : List ℕ) → IsPreviousLine line → line_command line ≡ Some Previous
unfolding command_of previous_of
previous_is line (blanks, rest, e, b, last) = verb_read line (codes "previous") rest blanks refl e b (tail_ends [] rest last) ∙ ended_is Previous rest last

position_is : (line : List ℕ) → IsPositionLine line → line_command line ≡ Some Position
unfolding command_of position_of
position_is line (blanks, rest, e, b, last) = verb_read line (codes "where") rest blanks refl e b (tail_ends [] rest last) ∙ ended_is Position rest last

view_is : (line : List ℕ) (index : ℕ) → IsViewLine index line → line_command line ≡ Some (View index)
unfolding command_of view_of
view_is line index h = numbered_is View line (codes "view") index refl (λ rest. refl) h

close_is : (line : List ℕ) (index : ℕ) → IsCloseLine index line → line_command line ≡ Some (Close index)
unfolding command_of close_of
close_is line index h = numbered_is Close line (codes "close") index refl (λ rest. refl) h

-- numbers within any two limits
within_limits : {A : Type 0} (first second most more : ℕ) (found : Option A) → first ≤ most → second ≤ more
    → cond (ltb most first || ltb more second) None found ≡ found
within_limits first second most more found h k = rw (le-ltb most first h, le-ltb more second k) refl

make_is : (line : List ℕ) (seed pieces : ℕ) → IsMakeLine seed pieces line → line_command line ≡ Some (Make seed pieces)
unfolding command_of make_of most_seed most_pieces
make_is line seed pieces (first, second, m, n, few, short, (blanks, rest, e, b, (gap, more, e1, g, (gap2, end, e2, g2, last)))) =
    verb_read line (codes "make") rest blanks refl e b (tail_ends (first ∷ second ∷ []) rest (gap, more, e1, g, (gap2, end, e2, g2, last)))
    ∙ rw (e1, number_at_is gap first more seed g m (tail_ends (second ∷ []) more (gap2, end, e2, g2, last)), e2, number_at_is gap2 second end pieces g2 n (tail_ends [] end last))
    (within_limits seed pieces most_seed most_pieces (ended (Make seed pieces) end) few short ∙ ended_is (Make seed pieces) end last)

finish_is : (line : List ℕ) (at : ℕ) → IsFinishLine at line → line_command line ≡ Some (Finish at)
unfolding command_of finish_of
finish_is line at h = numbered_is Finish line (codes "finish") at refl (λ rest. refl) h

split_is : (line : List ℕ) (at : ℕ) → IsSplitLine at line → line_command line ≡ Some (Split at)
unfolding command_of split_of
split_is line at h = numbered_is Split line (codes "split") at refl (λ rest. refl) h

-- a command of a number and a name
named_is : (command : ℕ → List ℕ → Command) (line verb : List ℕ) (at : ℕ) (name : List ℕ) → is_verb verb ≡ true
    → ((rest : List ℕ) → command_of verb rest ≡ named command rest) → IsOfName verb at name line → line_command line ≡ Some (command at name)
named_is command line verb at name plain its (number, text, n, t, q, (blanks, rest, e, b, (gap, more, e1, g, (gap2, end, e2, g2, last)))) =
    verb_read line verb rest blanks plain e b (tail_ends (number ∷ text ∷ []) rest (gap, more, e1, g, (gap2, end, e2, g2, last)))
    ∙ its rest
    ∙ rw (e1, number_at_is gap number more at g n (tail_ends (text ∷ []) more (gap2, end, e2, g2, last)), e2, name_at_is gap2 text end name g2 t q) (ended_is (command at name) end last)

pair_is : (line : List ℕ) (at : ℕ) (name : List ℕ) → IsPairLine at name line → line_command line ≡ Some (Pair at name)
unfolding command_of pair_of
pair_is line at name h = named_is Pair line (codes "pair") at name refl (λ rest. refl) h

rename_is : (line : List ℕ) (at : ℕ) (name : List ℕ) → IsRenameLine at name line → line_command line ≡ Some (Rename at name)
unfolding command_of rename_of
rename_is line at name h = named_is Rename line (codes "rename") at name refl (λ rest. refl) h

pub line_is : (line : List ℕ) (command : Command) → IsLine line command → line_command line ≡ Some command
line_is line Nothing h = nothing_is line h
line_is line (OpenFile uri) h = open_is line uri h
line_is line (Save uri) h = save_is line uri h
line_is line (Insert at added) h = insert_is line at added h
line_is line (Delete from to) h = delete_is line from to h
line_is line Print h = print_is line h
line_is line Errors h = errors_is line h
line_is line (Slice count) h = slice_is line count h
line_is line Stats h = stats_is line h
line_is line (SchemaFile uri) h = schema_file_is line uri h
line_is line SchemaNone h = schema_none_is line h
line_is line SchemaAuto h = schema_auto_is line h
line_is line (Complete at) h = complete_is line at h
line_is line (Goto at) h = goto_is line at h
line_is line (Move way) h = move_is line way h
line_is line Next h = next_is line h
line_is line Previous h = previous_is line h
line_is line Position h = position_is line h
line_is line (View index) h = view_is line index h
line_is line (Close index) h = close_is line index h
line_is line (Make seed pieces) h = make_is line seed pieces h
line_is line (Finish at) h = finish_is line at h
line_is line (Split at) h = split_is line at h
line_is line (Pair at name) h = pair_is line at name h
line_is line (Rename at name) h = rename_is line at name h

-- ---- what is read is the line's command

open_takes : (line blanks rest : List ℕ) (c : Command) → line ≡ blanks ++ codes "open" ++ rest → IsBlanks blanks → open_of rest ≡ Some c → IsLine line c
unfolding open_of
open_takes line blanks rest c e b h =
    let uri = found_step (text_at rest) (λ x. ended (OpenFile x.0) x.1) c h in
    let text = text_at_takes rest uri.0.0 uri.0.1 uri.1 in
    let end = ended_takes (OpenFile uri.0.0) uri.0.1 c uri.2 in
    subst (IsLine line) end.0 (text.1, text.4, (blanks, rest, e, b, (text.0, uri.0.1, text.2, text.3, end.1)))

save_takes : (line blanks rest : List ℕ) (c : Command) → line ≡ blanks ++ codes "save" ++ rest → IsBlanks blanks → save_of rest ≡ Some c → IsLine line c
unfolding save_of
save_takes line blanks rest c e b h =
    let uri = found_step (text_at rest) (λ x. ended (Save x.0) x.1) c h in
    let text = text_at_takes rest uri.0.0 uri.0.1 uri.1 in
    let end = ended_takes (Save uri.0.0) uri.0.1 c uri.2 in
    subst (IsLine line) end.0 (text.1, text.4, (blanks, rest, e, b, (text.0, uri.0.1, text.2, text.3, end.1)))

insert_takes : (line blanks rest : List ℕ) (c : Command) → line ≡ blanks ++ codes "insert" ++ rest → IsBlanks blanks → insert_of rest ≡ Some c → IsLine line c
unfolding insert_of
insert_takes line blanks rest c e b h =
    let at = found_step (number_at rest) (λ x. text_at x.1 >>= λ y. ended (Insert x.0 y.0) y.1) c h in
    let added = found_step (text_at at.0.1) (λ y. ended (Insert at.0.0 y.0) y.1) c at.2 in
    let number = number_at_takes rest at.0.1 at.0.0 at.1 in
    let text = text_at_takes at.0.1 added.0.0 added.0.1 added.1 in
    let end = ended_takes (Insert at.0.0 added.0.0) added.0.1 c added.2 in
    subst (IsLine line) end.0 (number.1, text.1, number.4, text.4, (blanks, rest, e, b, (number.0, at.0.1, number.2, number.3, (text.0, added.0.1, text.2, text.3, end.1))))

delete_takes : (line blanks rest : List ℕ) (c : Command) → line ≡ blanks ++ codes "delete" ++ rest → IsBlanks blanks → delete_of rest ≡ Some c → IsLine line c
unfolding delete_of
delete_takes line blanks rest c e b h =
    let from = found_step (number_at rest) (λ x. number_at x.1 >>= λ y. ended (Delete x.0 y.0) y.1) c h in
    let to = found_step (number_at from.0.1) (λ y. ended (Delete from.0.0 y.0) y.1) c from.2 in
    let first = number_at_takes rest from.0.1 from.0.0 from.1 in
    let second = number_at_takes from.0.1 to.0.1 to.0.0 to.1 in
    let end = ended_takes (Delete from.0.0 to.0.0) to.0.1 c to.2 in
    subst (IsLine line) end.0 (first.1, second.1, first.4, second.4, (blanks, rest, e, b, (first.0, from.0.1, first.2, first.3, (second.0, to.0.1, second.2, second.3, end.1))))

print_takes : (line blanks rest : List ℕ) (c : Command) → line ≡ blanks ++ codes "print" ++ rest → IsBlanks blanks → print_of rest ≡ Some c → IsLine line c
unfolding print_of
print_takes line blanks rest c e b h =
    let end = ended_takes Print rest c h in
    subst (IsLine line) end.0 (blanks, rest, e, b, end.1)

errors_takes : (line blanks rest : List ℕ) (c : Command) → line ≡ blanks ++ codes "errors" ++ rest → IsBlanks blanks → errors_of rest ≡ Some c → IsLine line c
unfolding errors_of
errors_takes line blanks rest c e b h =
    let end = ended_takes Errors rest c h in
    subst (IsLine line) end.0 (blanks, rest, e, b, end.1)

-- of a command of a number alone
numbered_takes : (command : ℕ → Command) (line blanks verb rest : List ℕ) (c : Command) → line ≡ blanks ++ verb ++ rest → IsBlanks blanks → numbered command rest ≡ Some c
    → (value : ℕ) × (command value ≡ c) × IsOfNumber verb value line
numbered_takes command line blanks verb rest c e b h =
    let value = found_step (number_at rest) (λ x. ended (command x.0) x.1) c h in
    let number = number_at_takes rest value.0.1 value.0.0 value.1 in
    let end = ended_takes (command value.0.0) value.0.1 c value.2 in
    (value.0.0, end.0, (number.1, number.4, (blanks, rest, e, b, (number.0, value.0.1, number.2, number.3, end.1))))

slice_takes : (line blanks rest : List ℕ) (c : Command) → line ≡ blanks ++ codes "slice" ++ rest → IsBlanks blanks → slice_of rest ≡ Some c → IsLine line c
unfolding slice_of
slice_takes line blanks rest c e b h = let found = numbered_takes Slice line blanks (codes "slice") rest c e b h in subst (IsLine line) found.1 found.2

stats_takes : (line blanks rest : List ℕ) (c : Command) → line ≡ blanks ++ codes "stats" ++ rest → IsBlanks blanks → stats_of rest ≡ Some c → IsLine line c
unfolding stats_of
stats_takes line blanks rest c e b h =
    let end = ended_takes Stats rest c h in
    subst (IsLine line) end.0 (blanks, rest, e, b, end.1)

schema_file_takes : (line blanks rest : List ℕ) (c : Command) → line ≡ blanks ++ codes "schema" ++ rest → IsBlanks blanks → schema_file_of rest ≡ Some c → IsLine line c
unfolding schema_file_of
schema_file_takes line blanks rest c e b h =
    let uri = found_step (text_at rest) (λ x. ended (SchemaFile x.0) x.1) c h in
    let text = text_at_takes rest uri.0.0 uri.0.1 uri.1 in
    let end = ended_takes (SchemaFile uri.0.0) uri.0.1 c uri.2 in
    subst (IsLine line) end.0 (text.1, text.4, (blanks, rest, e, b, (text.0, uri.0.1, text.2, text.3, end.1)))

-- what is found is the line's command
abbrev Takes : List ℕ → Option Command → Type 0
Takes line found = (c : Command) → found ≡ Some c → IsLine line c

-- the second word stands there, or the others are tried
by_second : (command : Command) (line blanks verb word rest : List ℕ) (found : Option (List ℕ)) (others : Option Command)
    → line ≡ blanks ++ verb ++ rest → IsBlanks blanks → word_at word rest ≡ found
    → (IsOfWords verb (word ∷ []) line → IsLine line command) → Takes line others → Takes line (ended_or command found others)
by_second command line blanks verb word rest (Some behind) others e b is this more c h =
    let second = word_at_takes word rest behind is in
    let end = ended_takes command behind c h in
    subst (IsLine line) end.0 (this (blanks, rest, e, b, (second.0, behind, second.1, second.2, end.1)))
by_second command line blanks verb word rest None others e b is this more c h = more c h

schema_takes : (line blanks rest : List ℕ) (c : Command) → line ≡ blanks ++ codes "schema" ++ rest → IsBlanks blanks → schema_of rest ≡ Some c → IsLine line c
unfolding schema_of
schema_takes line blanks rest c e b h =
    by_second SchemaNone line blanks (codes "schema") (codes "none") rest _ _ e b refl (λ k. k)
    (by_second SchemaAuto line blanks (codes "schema") (codes "auto") rest _ _ e b refl (λ k. k)
    (λ c k. schema_file_takes line blanks rest c e b k)) c h

complete_takes : (line blanks rest : List ℕ) (c : Command) → line ≡ blanks ++ codes "complete" ++ rest → IsBlanks blanks → complete_of rest ≡ Some c → IsLine line c
unfolding complete_of
complete_takes line blanks rest c e b h = let found = numbered_takes Complete line blanks (codes "complete") rest c e b h in subst (IsLine line) found.1 found.2

goto_takes : (line blanks rest : List ℕ) (c : Command) → line ≡ blanks ++ codes "goto" ++ rest → IsBlanks blanks → goto_of rest ≡ Some c → IsLine line c
unfolding goto_of
goto_takes line blanks rest c e b h = let found = numbered_takes Goto line blanks (codes "goto") rest c e b h in subst (IsLine line) found.1 found.2

move_takes : (line blanks rest : List ℕ) (c : Command) → line ≡ blanks ++ codes "move" ++ rest → IsBlanks blanks → move_of rest ≡ Some c → IsLine line c
unfolding move_of
move_takes line blanks rest c e b h =
    let way = found_step (way_at rest) (λ x. ended (Move x.0) x.1) c h in
    let word = way_at_takes rest way.0.1 way.0.0 way.1 in
    let end = ended_takes (Move way.0.0) way.0.1 c way.2 in
    subst (IsLine line) end.0 (blanks, rest, e, b, (word.0, way.0.1, word.1, word.2, end.1))

next_takes : (line blanks rest : List ℕ) (c : Command) → line ≡ blanks ++ codes "next" ++ rest → IsBlanks blanks → next_of rest ≡ Some c → IsLine line c
unfolding next_of
next_takes line blanks rest c e b h =
    let end = ended_takes Next rest c h in
    subst (IsLine line) end.0 (blanks, rest, e, b, end.1)

previous_takes : (line blanks rest : List ℕ) (c : Command) → line ≡ blanks ++ codes "previous" ++ rest → IsBlanks blanks → previous_of rest ≡ Some c → IsLine line c
unfolding previous_of
previous_takes line blanks rest c e b h =
    let end = ended_takes Previous rest c h in
    subst (IsLine line) end.0 (blanks, rest, e, b, end.1)

position_takes : (line blanks rest : List ℕ) (c : Command) → line ≡ blanks ++ codes "where" ++ rest → IsBlanks blanks → position_of rest ≡ Some c → IsLine line c
unfolding position_of
position_takes line blanks rest c e b h =
    let end = ended_takes Position rest c h in
    subst (IsLine line) end.0 (blanks, rest, e, b, end.1)

view_takes : (line blanks rest : List ℕ) (c : Command) → line ≡ blanks ++ codes "view" ++ rest → IsBlanks blanks → view_of rest ≡ Some c → IsLine line c
unfolding view_of
view_takes line blanks rest c e b h = let found = numbered_takes View line blanks (codes "view") rest c e b h in subst (IsLine line) found.1 found.2

close_takes : (line blanks rest : List ℕ) (c : Command) → line ≡ blanks ++ codes "close" ++ rest → IsBlanks blanks → close_of rest ≡ Some c → IsLine line c
unfolding close_of
close_takes line blanks rest c e b h = let found = numbered_takes Close line blanks (codes "close") rest c e b h in subst (IsLine line) found.1 found.2

-- what is answered within two limits
from_limits : (first second most more : ℕ) (found : Option Command) (c : Command) → cond (ltb most first || ltb more second) None found ≡ Some c
    → (first ≤ most) × (second ≤ more) × (found ≡ Some c)
from_limits first second most more found c h =
    elim (chosen (ltb most first || ltb more second) None found (Some c) h) [
      | inl (over, k) ↦ absurd cc
      | inr (within, k) ↦
          let parts = or_parts (ltb most first) (ltb more second) within in
          (ltb-false most first parts.0, ltb-false more second parts.1, k)
    ]

make_takes : (line blanks rest : List ℕ) (c : Command) → line ≡ blanks ++ codes "make" ++ rest → IsBlanks blanks → make_of rest ≡ Some c → IsLine line c
unfolding make_of most_seed most_pieces
make_takes line blanks rest c e b h =
    let seed = found_step (number_at rest) (λ x. number_at x.1 >>= λ y. cond (ltb most_seed x.0 || ltb most_pieces y.0) None (ended (Make x.0 y.0) y.1)) c h in
    let pieces = found_step (number_at seed.0.1) (λ y. cond (ltb most_seed seed.0.0 || ltb most_pieces y.0) None (ended (Make seed.0.0 y.0) y.1)) c seed.2 in
    let within = from_limits seed.0.0 pieces.0.0 most_seed most_pieces (ended (Make seed.0.0 pieces.0.0) pieces.0.1) c pieces.2 in
    let first = number_at_takes rest seed.0.1 seed.0.0 seed.1 in
    let second = number_at_takes seed.0.1 pieces.0.1 pieces.0.0 pieces.1 in
    let end = ended_takes (Make seed.0.0 pieces.0.0) pieces.0.1 c within.2 in
    subst (IsLine line) end.0 (first.1, second.1, first.4, second.4, within.0, within.1, (blanks, rest, e, b, (first.0, seed.0.1, first.2, first.3, (second.0, pieces.0.1, second.2, second.3, end.1))))

finish_takes : (line blanks rest : List ℕ) (c : Command) → line ≡ blanks ++ codes "finish" ++ rest → IsBlanks blanks → finish_of rest ≡ Some c → IsLine line c
unfolding finish_of
finish_takes line blanks rest c e b h = let found = numbered_takes Finish line blanks (codes "finish") rest c e b h in subst (IsLine line) found.1 found.2

split_takes : (line blanks rest : List ℕ) (c : Command) → line ≡ blanks ++ codes "split" ++ rest → IsBlanks blanks → split_of rest ≡ Some c → IsLine line c
unfolding split_of
split_takes line blanks rest c e b h = let found = numbered_takes Split line blanks (codes "split") rest c e b h in subst (IsLine line) found.1 found.2

-- a command of a number and a name
named_takes : (command : ℕ → List ℕ → Command) (line blanks verb rest : List ℕ) (c : Command) → line ≡ blanks ++ verb ++ rest → IsBlanks blanks
    → named command rest ≡ Some c → (at : ℕ) × (name : List ℕ) × (command at name ≡ c) × IsOfName verb at name line
named_takes command line blanks verb rest c e b h =
    let at = found_step (number_at rest) (λ x. name_at x.1 >>= λ y. ended (command x.0 y.0) y.1) c h in
    let name = found_step (name_at at.0.1) (λ y. ended (command at.0.0 y.0) y.1) c at.2 in
    let number = number_at_takes rest at.0.1 at.0.0 at.1 in
    let text = name_at_takes at.0.1 name.0.0 name.0.1 name.1 in
    let end = ended_takes (command at.0.0 name.0.0) name.0.1 c name.2 in (
      at.0.0,
      name.0.0,
      end.0,
      (number.1, text.1, number.4, text.4, text.5, (blanks, rest, e, b, (number.0, at.0.1, number.2, number.3, (text.0, name.0.1, text.2, text.3, end.1)))),
    )

pair_takes : (line blanks rest : List ℕ) (c : Command) → line ≡ blanks ++ codes "pair" ++ rest → IsBlanks blanks → pair_of rest ≡ Some c → IsLine line c
unfolding pair_of
pair_takes line blanks rest c e b h = let found = named_takes Pair line blanks (codes "pair") rest c e b h in subst (IsLine line) found.2 found.3

rename_takes : (line blanks rest : List ℕ) (c : Command) → line ≡ blanks ++ codes "rename" ++ rest → IsBlanks blanks → rename_of rest ≡ Some c → IsLine line c
unfolding rename_of
rename_takes line blanks rest c e b h = let found = named_takes Rename line blanks (codes "rename") rest c e b h in subst (IsLine line) found.2 found.3

-- the word is this name, or the others are tried
by_name : (line blanks word rest name : List ℕ) (found others : Option Command) → line ≡ blanks ++ word ++ rest
    → (line ≡ blanks ++ name ++ rest → Takes line found) → Takes line others → Takes line (cond (bytes_eq word name) found others)
by_name line blanks word rest name found others e this more c h =
    elim (chosen (bytes_eq word name) found others (Some c) h) [
      | inl (test, k) ↦ this (e ∙ ap (λ w. blanks ++ w ++ rest) ((bytes_eq-Decides word name).0 test)) c k
      | inr (other, k) ↦ more c k
    ]

by_no_name : (line : List ℕ) → Takes line None
by_no_name line c h = absurd cc

verb_takes : (line blanks word rest : List ℕ) → line ≡ blanks ++ word ++ rest → IsBlanks blanks → Takes line (command_of word rest)
unfolding command_of
verb_takes line blanks word rest e b =
    by_name line blanks word rest (codes "open") (open_of rest) _ e (λ k c h. open_takes line blanks rest c k b h)
    (by_name line blanks word rest (codes "save") (save_of rest) _ e (λ k c h. save_takes line blanks rest c k b h)
    (by_name line blanks word rest (codes "insert") (insert_of rest) _ e (λ k c h. insert_takes line blanks rest c k b h)
    (by_name line blanks word rest (codes "delete") (delete_of rest) _ e (λ k c h. delete_takes line blanks rest c k b h)
    (by_name line blanks word rest (codes "print") (print_of rest) _ e (λ k c h. print_takes line blanks rest c k b h)
    (by_name line blanks word rest (codes "errors") (errors_of rest) _ e (λ k c h. errors_takes line blanks rest c k b h)
    (by_name line blanks word rest (codes "slice") (slice_of rest) _ e (λ k c h. slice_takes line blanks rest c k b h)
    (by_name line blanks word rest (codes "stats") (stats_of rest) _ e (λ k c h. stats_takes line blanks rest c k b h)
    (by_name line blanks word rest (codes "schema") (schema_of rest) _ e (λ k c h. schema_takes line blanks rest c k b h)
    (by_name line blanks word rest (codes "complete") (complete_of rest) _ e (λ k c h. complete_takes line blanks rest c k b h)
    (by_name line blanks word rest (codes "goto") (goto_of rest) _ e (λ k c h. goto_takes line blanks rest c k b h)
    (by_name line blanks word rest (codes "move") (move_of rest) _ e (λ k c h. move_takes line blanks rest c k b h)
    (by_name line blanks word rest (codes "next") (next_of rest) _ e (λ k c h. next_takes line blanks rest c k b h)
    (by_name line blanks word rest (codes "previous") (previous_of rest) _ e (λ k c h. previous_takes line blanks rest c k b h)
    (by_name line blanks word rest (codes "where") (position_of rest) _ e (λ k c h. position_takes line blanks rest c k b h)
    (by_name line blanks word rest (codes "view") (view_of rest) _ e (λ k c h. view_takes line blanks rest c k b h)
    (by_name line blanks word rest (codes "close") (close_of rest) _ e (λ k c h. close_takes line blanks rest c k b h)
    (by_name line blanks word rest (codes "make") (make_of rest) _ e (λ k c h. make_takes line blanks rest c k b h)
    (by_name line blanks word rest (codes "finish") (finish_of rest) _ e (λ k c h. finish_takes line blanks rest c k b h)
    (by_name line blanks word rest (codes "split") (split_of rest) _ e (λ k c h. split_takes line blanks rest c k b h)
    (by_name line blanks word rest (codes "pair") (pair_of rest) _ e (λ k c h. pair_takes line blanks rest c k b h)
    (by_name line blanks word rest (codes "rename") (rename_of rest) _ e (λ k c h. rename_takes line blanks rest c k b h)
    (by_no_name line))))))))))))))))))))))

command_takes : (line blanks bytes : List ℕ) (c : Command) → line ≡ blanks ++ bytes → IsBlanks blanks → command_at bytes ≡ Some c → IsLine line c
unfolding command_at
command_takes line blanks [] c e b h = subst (IsLine line) (same_Some Nothing c h) (inl (subst IsBlanks (sym (e ∙ append-nil blanks)) b))
command_takes line blanks (first ∷ bytes) c e b h =
    let whole = first ∷ bytes in
    let end = position_or_len is_blank whole in
    elim (chosen (eqb first 35) (Some Nothing) (command_of (take end whole) (drop end whole)) (Some c) h) [
      | inl (test, k) ↦ subst (IsLine line) (same_Some Nothing c k) (inr (blanks, bytes, e ∙ ap (λ f. blanks ++ f ∷ bytes) (eqb-true first 35 test) ∙ sym (append_assoc blanks (35 ∷ []) bytes), b))
      | inr (other, k) ↦ verb_takes line blanks (take end whole) (drop end whole) (e ∙ ap (λ w. blanks ++ w) (sym (take-append-drop end whole)) ∙ sym (append_assoc blanks (take end whole) (drop end whole))) b c k
    ]

pub line_takes : (line : List ℕ) (command : Command) → line_command line ≡ Some command → IsLine line command
unfolding line_command
line_takes line command h =
    let parts = after_blanks_leaves line in
    command_takes line parts.0 (after_blanks line) command parts.1 parts.2 h

-- ---- what a call answers

pub reads : (line : List ℕ) (answer : Result Command ScriptFault) → Finds (λ command. command) answer (line_command line) → ReadsLine line answer
reads line (Ok command) e = line_takes line command e
reads line (Err BadCommand) e = λ command h. let is = line_is line command h in absurd cc
reads line (Err NoMemory) e = tt

pub one_command : (line : List ℕ) (first second : Command) → IsLine line first → IsLine line second → first ≡ second
one_command line first second h k = same_Some first second (sym (line_is line first h) ∙ line_is line second k)

-- ---- the texts of a command are UTF-8, and its names QNames

-- a word of the rest of a line, in the whole line
in_line : (line front rest gap word end : List ℕ) → line ≡ front ++ rest → rest ≡ gap ++ word ++ end → line ≡ front ++ gap ++ word ++ end
in_line line front rest gap word end e k = e ∙ ap (λ r. front ++ r) k ∙ simp append_assoc

texts_fit : (line : List ℕ) (command : Command) → IsUtf8 line → IsLine line command → HasFitTexts command
texts_fit line Nothing utf8 h = tt
texts_fit line (OpenFile uri) utf8 (text, t, (blanks, rest, e, b, (gap, end, e1, g, last))) =
    let front = blanks ++ codes "open" in
    word_utf8 (front ++ gap) text end uri t (subst IsUtf8 (in_line line front rest gap text end e e1) utf8)
texts_fit line (Save uri) utf8 (text, t, (blanks, rest, e, b, (gap, end, e1, g, last))) =
    let front = blanks ++ codes "save" in
    word_utf8 (front ++ gap) text end uri t (subst IsUtf8 (in_line line front rest gap text end e e1) utf8)
texts_fit line (Insert at added) utf8 (number, text, n, t, (blanks, rest, e, b, (gap, more, e1, g, (gap2, end, e2, g2, last)))) =
    let front = blanks ++ codes "insert" in
    let first = in_line line front rest gap number more e e1 in
    word_utf8 (front ++ gap ++ number ++ gap2) text end added t (subst IsUtf8 (in_line line (front ++ gap ++ number) more gap2 text end first e2) utf8)
texts_fit line (Delete from to) utf8 h = tt
texts_fit line Print utf8 h = tt
texts_fit line Errors utf8 h = tt
texts_fit line (Slice count) utf8 h = tt
texts_fit line Stats utf8 h = tt
texts_fit line (SchemaFile uri) utf8 (text, t, (blanks, rest, e, b, (gap, end, e1, g, last))) =
    let front = blanks ++ codes "schema" in
    word_utf8 (front ++ gap) text end uri t (subst IsUtf8 (in_line line front rest gap text end e e1) utf8)
texts_fit line SchemaNone utf8 h = tt
texts_fit line SchemaAuto utf8 h = tt
texts_fit line (Complete at) utf8 h = tt
texts_fit line (Goto at) utf8 h = tt
texts_fit line (Move way) utf8 h = tt
texts_fit line Next utf8 h = tt
texts_fit line Previous utf8 h = tt
texts_fit line Position utf8 h = tt
texts_fit line (View index) utf8 h = tt
texts_fit line (Close index) utf8 h = tt
texts_fit line (Make seed pieces) utf8 h = tt
texts_fit line (Finish at) utf8 h = tt
texts_fit line (Split at) utf8 h = tt
texts_fit line (Pair at name) utf8 (number, text, n, t, q, words) = q
texts_fit line (Rename at name) utf8 (number, text, n, t, q, words) = q

pub answer_fits : (line : List ℕ) (answer : Result Command ScriptFault) → IsUtf8 line → ReadsLine line answer → IfOk answer HasFitTexts
answer_fits line (Ok command) utf8 h = texts_fit line command utf8 h
answer_fits line (Err fault) utf8 h = tt
