-- The letters that are read are the letters of the text, and a fault is read where one is.
use Rattle.std.proofs.Common.{◌≡◌, ℕ, zero, suc, ◌-◌, ◌<◌, ◌≤◌, Bool, true, false, List, [], ◌∷◌, ◌++◌, length, take, drop, Result, Ok, Err, refl, sym, ap, ◌∙◌, arith, inl, inr}
use Rattle.std.specs.Str.{IsUtf8, IsCharBoundary, chars}
use Rattle.std.proofs.lemmas.Bool.{ne_eqb}
use Rattle.std.proofs.lemmas.List.{append_assoc, append-nil, take-append-drop, length-drop}
use Rattle.std.proofs.lemmas.Str.{encodes-chars, IsCharBoundary-from_drop}
use Rattle.nx_base.specs.Characters.{is_char}
use Rattle.rnc_lex.specs.declared.escape.First.{First}
use Rattle.rnc_lex.specs.declared.escape.First.TheVariants as first
use Rattle.rnc_lex.specs.declared.letter.Letter.{Letter}
use Rattle.rnc_lex.specs.declared.fault.LexFault.{LexFault}
use Rattle.rnc_lex.specs.declared.fault.LexFault.TheVariants.{BadEscape, BadLiteral, BadCharacter, NoMemory}
use Rattle.rnc_lex.specs.Letters.{without_mark, place, BeginsEscape, IsEscape, StandsFor, itself, line_end, escape, AreLetters}
use Rattle.rnc_lex.specs.Reading.{then_found, first_letter, letter_of, onto_letters, letters_from, letters_of}
use Rattle.rnc_lex.proofs.Escapes.{first_same, first_ends}
use Rattle.rnc_lex.proofs.Spelled.{Means, first_means, stands_read}

-- ---- what was found, changed twice

pub then_found_same : {A : Type 0} (change : A → A) → ((x : A) → change x ≡ x) → (found : Result A LexFault) → then_found change found ≡ found
then_found_same change h (Ok x) = ap Ok (h x)
then_found_same change h (Err fault) = refl

pub then_found_twice : {A B C : Type 0} (one : A → B) (two : B → C) (both : A → C) → ((x : A) → two (one x) ≡ both x) → (found : Result A LexFault) → then_found two (then_found one found) ≡ then_found both found
then_found_twice one two both h (Ok x) = ap Ok (h x)
then_found_twice one two both h (Err fault) = refl

-- ---- skipping what belongs to a letter before

pub letters_skip : (len : ℕ) (front cs : List ℕ) → letters_from len (length front) (front ++ cs) ≡ letters_from len 0 cs
unfolding letters_from
letters_skip len [] cs = refl
letters_skip len (c ∷ front) cs = letters_skip len front cs

letters_drop : (len n : ℕ) (cs : List ℕ) → n ≤ length cs → letters_from len n cs ≡ letters_from len 0 (drop n cs)
unfolding letters_from
letters_drop len zero cs h = refl
letters_drop len (suc n) [] h = absurd (omega arith)
letters_drop len (suc n) (c ∷ cs) h = letters_drop len n cs (omega arith)

pub letters_cons : (len c : ℕ) (cs : List ℕ) → letters_from len 0 (c ∷ cs) ≡ onto_letters (place len (c ∷ cs)) (first_letter c cs) (λ more. letters_from len more cs)
unfolding letters_from
letters_cons len c cs = refl

-- ---- a step of the loop

-- one letter more behind those that were found
pub onto_found : (found : List Letter) (letter : Letter) (behind : Result (List Letter) LexFault) → then_found (λ more. found ++ more) (then_found (λ letters. letter ∷ letters) behind) ≡ then_found (λ more. (found ++ letter ∷ []) ++ more) behind
onto_found found letter behind = then_found_twice (λ letters. letter ∷ letters) (λ more. found ++ more) (λ more. (found ++ letter ∷ []) ++ more) (λ more. sym (append_assoc found (letter ∷ []) more)) behind

pub place_is : (len : ℕ) (rest : List ℕ) → IsUtf8 rest → place len (chars rest) ≡ len - length rest
place_is len rest h = ap (λ (t : List ℕ). len - length t) (encodes-chars rest h)

-- where the first character and those behind it are read
read_rest : (len : ℕ) (rest behind : List ℕ) (c : ℕ) (r : First) → IsUtf8 rest → IsUtf8 behind → chars rest ≡ c ∷ chars behind → first_letter c behind ≡ r
    → letters_from len 0 (chars rest) ≡ onto_letters (len - length rest) r (λ more. letters_from len more (chars behind))
read_rest len rest behind c r h k e read =
    let at : place len (c ∷ chars behind) ≡ len - length rest = ap (place len) (sym e) ∙ place_is len rest h in
    ap (letters_from len 0) e ∙ letters_cons len c (chars behind)
    ∙ ap (λ x. onto_letters (place len (c ∷ chars behind)) x (λ more. letters_from len more (chars behind))) (first_same c behind k ∙ read)
    ∙ ap (λ at. onto_letters at r (λ more. letters_from len more (chars behind))) at

-- what was read, of the same bytes
pub read_is : (result r : First) (c : ℕ) (bytes behind : List ℕ) → result ≡ first_letter c bytes → bytes ≡ behind → result ≡ r → first_letter c behind ≡ r
read_is result r c bytes behind e same is = ap (first_letter c) (sym same) ∙ sym e ∙ is

pub letters_more : (len : ℕ) (rest behind next : List ℕ) (c d : ℕ) (w : Bool) (more : ℕ) (found longer : List Letter) (total : Result (List Letter) LexFault)
    → IsUtf8 rest → IsUtf8 behind → chars rest ≡ c ∷ chars behind → first_letter c behind ≡ first.Letter d w more → next ≡ drop more behind
    → longer ≡ found ++ letter_of (len - length rest) d w ∷ []
    → total ≡ then_found (λ x. found ++ x) (letters_from len 0 (chars rest))
    → total ≡ then_found (λ x. longer ++ x) (letters_from len 0 (chars next))
letters_more len rest behind next c d w more found longer total h k e read is grown all =
    let front = first_ends c behind d w more k read in
    let letter = letter_of (len - length rest) d w in
    let long : more ≤ length (chars behind) = (first_means c (chars behind) (first.Letter d w more) (first_same c behind k ∙ read)).0 in
    all
    ∙ ap (then_found (λ x. found ++ x)) (read_rest len rest behind c (first.Letter d w more) h k e read)
    ∙ onto_found found letter (letters_from len more (chars behind))
    ∙ ap (then_found (λ x. (found ++ letter ∷ []) ++ x)) (letters_drop len more (chars behind) long ∙ ap (letters_from len 0) (front.behind ∙ ap chars (sym is)))
    ∙ ap (λ (f : List Letter). then_found (λ x. f ++ x) (letters_from len 0 (chars next))) (sym grown)

pub shorter_still : (text rest behind next : List ℕ) (more : ℕ) → next ≡ drop more behind → length behind < length rest → length rest ≤ length text → length next ≤ length text
shorter_still text rest behind next more e lt le = let a = ap length e in let b = length-drop more behind in omega (arith, a, b, lt, le)

pub letters_fault : (len : ℕ) (rest behind : List ℕ) (c : ℕ) (r : First) (fault : LexFault) (found : List Letter) (total : Result (List Letter) LexFault)
    → IsUtf8 rest → IsUtf8 behind → chars rest ≡ c ∷ chars behind → first_letter c behind ≡ r → onto_letters (len - length rest) r (λ more. letters_from len more (chars behind)) ≡ Err fault
    → total ≡ then_found (λ x. found ++ x) (letters_from len 0 (chars rest)) → total ≡ Err fault
letters_fault len rest behind c r fault found total h k e read is all = all ∙ ap (then_found (λ x. found ++ x)) (read_rest len rest behind c r h k e read ∙ is)

pub letters_end : (len : ℕ) (cs : List ℕ) (found : List Letter) (total : Result (List Letter) LexFault) → cs ≡ [] → total ≡ then_found (λ x. found ++ x) (letters_from len 0 cs) → total ≡ Ok found
unfolding letters_from
letters_end len cs found total e all = all ∙ ap (λ (t : List ℕ). then_found (λ (x : List Letter). found ++ x) (letters_from len 0 t)) e ∙ ap Ok (append-nil found)

pub cut_fits : (c : ℕ) (behind : List ℕ) (d : ℕ) (w : Bool) (more : ℕ) → IsUtf8 behind → first_letter c behind ≡ first.Letter d w more → IsCharBoundary behind more
cut_fits c behind d w more h read = let front = first_ends c behind d w more h read in IsCharBoundary-from_drop behind more front.within front.utf8

-- ---- what is read is so

-- what an answer says of characters, the last ones of a text of so many bytes
abbrev pub Judged : ℕ → List ℕ → Result (List Letter) LexFault → Type 0
Judged len cs (Ok letters) = AreLetters len cs letters []
Judged len cs (Err (BadEscape at)) = (letters : List Letter) × (rest : List ℕ) × AreLetters len cs letters rest
    × BeginsEscape rest × ((spelled more : List ℕ) (c : ℕ) → rest ≡ spelled ++ more → IsEscape spelled c → ⊥)
    × (at ≡ place len rest)
Judged len cs (Err (BadCharacter at)) = (letters : List Letter) × (c : ℕ) × (rest : List ℕ) × AreLetters len cs letters (c ∷ rest)
    × (is_char c ≡ false) × (at ≡ place len (c ∷ rest))
Judged len cs (Err (BadLiteral at)) = ⊥
Judged len cs (Err NoMemory) = ⊥

-- one letter in front
one_more : (len : ℕ) (cs spelled more rest : List ℕ) (letter : Letter) (letters : List Letter) → cs ≡ spelled ++ more → StandsFor spelled more letter.character letter.written → letter.at ≡ place len cs → AreLetters len more letters rest → AreLetters len cs (letter ∷ letters) rest
one_more len cs spelled more rest letter letters e stands at all = (spelled, more, e, stands, at, all)

judged_more : (len : ℕ) (cs spelled more : List ℕ) (letter : Letter) (answer : Result (List Letter) LexFault) → cs ≡ spelled ++ more → StandsFor spelled more letter.character letter.written → letter.at ≡ place len cs → Judged len more answer → Judged len cs (then_found (λ letters. letter ∷ letters) answer)
judged_more len cs spelled more letter (Ok letters) e stands at all = one_more len cs spelled more [] letter letters e stands at all
judged_more len cs spelled more letter (Err (BadEscape p)) e stands at (letters, rest, all, begins, none, is) = (letter ∷ letters, rest, one_more len cs spelled more rest letter letters e stands at all, begins, none, is)
judged_more len cs spelled more letter (Err (BadCharacter p)) e stands at (letters, c, rest, all, none, is) = (letter ∷ letters, c, rest, one_more len cs spelled more (c ∷ rest) letter letters e stands at all, none, is)
judged_more len cs spelled more letter (Err (BadLiteral p)) e stands at h = absurd h
judged_more len cs spelled more letter (Err NoMemory) e stands at h = absurd h

judged_first : (len c : ℕ) (cs : List ℕ) (r : First) → Means c cs r → ((n : ℕ) → n ≤ length cs → Judged len (drop n cs) (letters_from len n cs)) → Judged len (c ∷ cs) (onto_letters (place len (c ∷ cs)) r (λ more. letters_from len more cs))
judged_first len c cs (first.Letter d w more) (long, stands) all =
    judged_more len (c ∷ cs) (c ∷ take more cs) (drop more cs) (letter_of (place len (c ∷ cs)) d w) (letters_from len more cs) (ap (λ (t : List ℕ). c ∷ t) (sym (take-append-drop more cs))) stands refl (all more long)
judged_first len c cs first.BrokenEscape (begins, none) all = ([], c ∷ cs, refl, begins, none, refl)
judged_first len c cs first.NoChar none all = ([], c, cs, refl, none, refl)

letters_judged : (len : ℕ) (cs : List ℕ) (skipped : ℕ) → skipped ≤ length cs → Judged len (drop skipped cs) (letters_from len skipped cs)
unfolding letters_from
letters_judged len [] zero h = refl
letters_judged len [] (suc n) h = absurd (omega arith)
letters_judged len (c ∷ cs) (suc n) h = letters_judged len cs n (omega arith)
letters_judged len (c ∷ cs) zero h = judged_first len c cs (first_letter c cs) (first_means c cs (first_letter c cs) refl) (letters_judged len cs)

pub letters_are_judged : (len : ℕ) (cs : List ℕ) → Judged len cs (letters_from len 0 cs)
letters_are_judged len cs = letters_judged len cs 0 (omega arith)

-- ---- what is so is read

letter_is : (len : ℕ) (cs : List ℕ) (letter : Letter) → letter.at ≡ place len cs → letter_of (place len cs) letter.character letter.written ≡ letter
letter_is len cs letter at = ap (λ at. letter_of at letter.character letter.written) (sym at)

pub letters_complete : (len : ℕ) (cs : List ℕ) (letters : List Letter) (rest : List ℕ) → AreLetters len cs letters rest → letters_from len 0 cs ≡ then_found (λ x. letters ++ x) (letters_from len 0 rest)
letters_complete len cs [] rest e = ap (letters_from len 0) e ∙ sym (then_found_same (λ x. x) (λ x. refl) (letters_from len 0 rest))
letters_complete len cs (letter ∷ letters) rest (spelled, more, e, stands, at, all) =
    let r = stands_read spelled more letter.character letter.written stands in
    let behind = r.more ++ more in
    let whole : cs ≡ r.s ∷ behind = e ∙ ap (λ (t : List ℕ). t ++ more) r.spelled_is in
    let same = letter_is len cs letter at in
    ap (letters_from len 0) whole ∙ letters_cons len r.s behind
    ∙ ap (λ x. onto_letters (place len (r.s ∷ behind)) x (λ n. letters_from len n behind)) r.reads
    ∙ ap (λ (t : List ℕ). then_found (λ x. letter_of (place len t) letter.character letter.written ∷ x) (letters_from len (length r.more) behind)) (sym whole)
    ∙ ap (λ (l : Letter). then_found (λ x. l ∷ x) (letters_from len (length r.more) behind)) same
    ∙ ap (then_found (λ x. letter ∷ x)) (letters_skip len r.more more ∙ letters_complete len more letters rest all)
    ∙ then_found_twice (λ x. letters ++ x) (λ x. letter ∷ x) (λ x. letter ∷ (letters ++ x)) (λ x. refl) (letters_from len 0 rest)

-- an escape that begins and is none is a broken one
broken_read : (c : ℕ) (cs : List ℕ) (r : First) → BeginsEscape (c ∷ cs) → ((spelled more : List ℕ) (d : ℕ) → c ∷ cs ≡ spelled ++ more → IsEscape spelled d → ⊥) → Means c cs r → r ≡ first.BrokenEscape
unfolding is_char
broken_read c cs first.BrokenEscape begins none means = refl
broken_read c cs first.NoChar (more, rest, e) none means = let is : c ≡ 92 = cc in let char : is_char c ≡ true = rw is refl in absurd cc
broken_read c cs (first.Letter d w n) (more, rest, e) none (long, itself f char other plain written) =
    let is : c ≡ d = cc in
    let alone : drop n cs ≡ cs = ap (λ (t : List ℕ). t ++ drop n cs) (sym (ap (drop 1) f)) ∙ take-append-drop n cs in
    absurd (plain (more, rest, ap (λ (t : List ℕ). d ∷ t) alone ∙ ap (λ x. x ∷ cs) (sym is) ∙ e))
broken_read c cs (first.Letter d w n) (more, rest, e) none (long, line_end (inl f) is written) = let slash : c ≡ 92 = cc in let line : c ≡ 13 = cc in absurd (omega arith)
broken_read c cs (first.Letter d w n) (more, rest, e) none (long, line_end (inr (f, _)) is written) = let slash : c ≡ 92 = cc in let line : c ≡ 13 = cc in absurd (omega arith)
broken_read c cs (first.Letter d w n) (more, rest, e) none (long, escape h written) = absurd (none (c ∷ take n cs) (drop n cs) d (ap (λ (t : List ℕ). c ∷ t) (sym (take-append-drop n cs))) h)

no_char_read : (c : ℕ) (cs : List ℕ) → is_char c ≡ false → first_letter c cs ≡ first.NoChar
unfolding first_letter is_char
no_char_read c cs none =
    let line = ne_eqb c 13 (λ e. let char : is_char c ≡ true = rw e refl in absurd cc) in
    let slash = ne_eqb c 92 (λ e. let char : is_char c ≡ true = rw e refl in absurd cc) in
    rw (line, slash, none) refl

-- characters that are so judged are read so
pub letters_exact : (len : ℕ) (cs : List ℕ) (answer : Result (List Letter) LexFault) → Judged len cs answer → letters_from len 0 cs ≡ answer
unfolding letters_from
letters_exact len cs (Ok letters) h = letters_complete len cs letters [] h ∙ ap Ok (append-nil letters)
letters_exact len cs (Err (BadEscape at)) (letters, [], all, (more, rest, e), none, is) = absurd cc
letters_exact len cs (Err (BadEscape at)) (letters, c ∷ rest, all, begins, none, is) =
    letters_complete len cs letters (c ∷ rest) all
    ∙ ap (λ r. then_found (λ x. letters ++ x) (onto_letters (place len (c ∷ rest)) r (λ more. letters_from len more rest))) (broken_read c rest (first_letter c rest) begins none (first_means c rest (first_letter c rest) refl))
    ∙ ap (λ p. Err (BadEscape p)) (sym is)
letters_exact len cs (Err (BadCharacter at)) (letters, c, rest, all, none, is) =
    letters_complete len cs letters (c ∷ rest) all
    ∙ ap (λ r. then_found (λ x. letters ++ x) (onto_letters (place len (c ∷ rest)) r (λ more. letters_from len more rest))) (no_char_read c rest none)
    ∙ ap (λ p. Err (BadCharacter p)) (sym is)
letters_exact len cs (Err (BadLiteral at)) h = absurd h
letters_exact len cs (Err NoMemory) h = absurd h

-- where the loop begins
pub letters_begin : (text rest : List ℕ) (found : List Letter) → found ≡ [] → chars rest ≡ without_mark (chars text) → letters_of text ≡ then_found (λ x. found ++ x) (letters_from (length text) 0 (chars rest))
unfolding letters_of
letters_begin text rest found none e =
    ap (letters_from (length text) 0) (sym e) ∙ sym (then_found_same (λ (x : List Letter). x) (λ x. refl) (letters_from (length text) 0 (chars rest)))
    ∙ ap (λ (f : List Letter). then_found (λ x. f ++ x) (letters_from (length text) 0 (chars rest))) (sym none)
