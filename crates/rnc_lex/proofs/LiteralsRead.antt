-- Literals that stand at the front are read, and those that are read stand there.
use Rattle.std.proofs.Common.{◌≡◌, ◌≢◌, ℕ, suc, ◌+◌, Bool, true, false, not, eqb, ◌&&◌, List, [], ◌∷◌, ◌++◌, length, take, drop, Option, Some, None, Ok, refl, sym, ap, ◌∙◌, arith, inl, inr}
use Rattle.std.specs.Option.{option_map}
use Rattle.std.proofs.lemmas.Bool.{cases_Bool, eqb-true, eqb-false, ne_eqb, eq-eqb, and_parts}
use Rattle.std.proofs.lemmas.List.{append_assoc, length-append, take_at, drop_at, take-append-drop}
use Rattle.rnc_lex.specs.declared.letter.Letter.{Letter}
use Rattle.rnc_lex.specs.declared.token.Lexeme.{Lexeme}
use Rattle.rnc_lex.specs.declared.token.Lexeme.TheVariants as lexeme
use Rattle.nx_base.specs.Characters.{is_quote}
use Rattle.rnc_lex.specs.Tokens.{said, utf8, Begins, AreInLine, three, AreUpToThree, short_literal as short_stands, long_literal as long_stands}
use Rattle.rnc_lex.specs.Reading.{front, begins_two, begins_three, before_three, up_to_three, long_literal, is_in_line, line_len, closed, short_literal, literal}
use Rattle.rnc_lex.proofs.Escapes.{chosen}
use Rattle.rnc_lex.proofs.Prefixes.{Pass, FirstFails, prefix_len_is, front_passes, both, not_false}
use Rattle.rnc_lex.proofs.Meant.{Meant, is_meant, IsFront}

-- ---- letters between quotes

and_no : (a : Bool) → a && false ≡ false
and_no true = refl
and_no false = refl

in_line_passes : (quote : ℕ) (letter : Letter) → letter.character ≢ quote → ((letter.character ≡ 10) × (letter.written ≡ true) → ⊥) → is_in_line quote letter ≡ true
in_line_passes quote letter other none =
    elim (cases_Bool (eqb letter.character 10 && letter.written)) [
      | inl newline ↦ let parts = and_parts (eqb letter.character 10) letter.written newline in absurd (none (eqb-true letter.character 10 parts.0, parts.1))
      | inr newline ↦ rw (ne_eqb letter.character quote other, newline) refl
    ]

lines_pass : (quote : ℕ) (letters : List Letter) → AreInLine quote letters → Pass (is_in_line quote) letters
lines_pass quote [] h = tt
lines_pass quote (letter ∷ letters) ((other, none), more) = (in_line_passes quote letter other none, lines_pass quote letters more)

passes_in_line : (quote : ℕ) (letter : Letter) → is_in_line quote letter ≡ true → (letter.character ≢ quote) × ((letter.character ≡ 10) × (letter.written ≡ true) → ⊥)
passes_in_line quote letter h =
    let parts = and_parts (not (eqb letter.character quote)) (not (eqb letter.character 10 && letter.written)) h in
    let none = not_false (eqb letter.character 10 && letter.written) parts.1 in (
      eqb-false letter.character quote (not_false (eqb letter.character quote) parts.0),
      λ (is, written). let newline = both (eqb letter.character 10) letter.written (eq-eqb letter.character 10 is) written in absurd cc,
    )

pass_lines : (quote : ℕ) (letters : List Letter) → Pass (is_in_line quote) letters → AreInLine quote letters
pass_lines quote [] h = tt
pass_lines quote (letter ∷ letters) (h, more) = (passes_in_line quote letter h, pass_lines quote letters more)

-- the quote itself is none of them
quote_fails : (quote : ℕ) (last : Letter) (rest : List Letter) → last.character ≡ quote → FirstFails (is_in_line quote) (last ∷ rest)
quote_fails quote last rest is = rw (eq-eqb last.character quote is) refl

-- ---- one quote

two_no : (quote : ℕ) (letter : Letter) (letters : List Letter) → eqb letter.character quote ≡ false → begins_two quote (letter ∷ letters) ≡ false
unfolding begins_two
two_no quote letter [] h = refl
two_no quote letter (next ∷ letters) h = rw h refl

one_and_no : (quote : ℕ) (last : Letter) (rest : List Letter) → (Begins (λ c. eqb c quote) (said rest) → ⊥) → begins_two quote (last ∷ rest) ≡ false
unfolding begins_two
one_and_no quote last [] h = refl
one_and_no quote last (next ∷ rest) h =
    elim (cases_Bool (eqb next.character quote)) [
      | inl is ↦ absurd (h is)
      | inr is ↦ rw is (and_no (eqb last.character quote))
    ]

short_begins : (quote : ℕ) (inside : List Letter) (last : Letter) (rest : List Letter) → AreInLine quote inside → (inside ≡ [] → Begins (λ c. eqb c quote) (said rest) → ⊥) → begins_two quote (inside ++ last ∷ [] ++ rest) ≡ false
short_begins quote [] last rest all alone = one_and_no quote last rest (alone refl)
short_begins quote (letter ∷ inside) last rest ((other, none), more) alone = two_no quote letter (inside ++ last ∷ [] ++ rest) (ne_eqb letter.character quote other)

short_is : (first : Letter) (inside : List Letter) (last : Letter) (rest : List Letter) → last.character ≡ first.character → AreInLine first.character inside
    → short_literal first (inside ++ last ∷ rest) ≡ Ok (front (Some (lexeme.Literal (utf8 inside))) (length inside + 1))
unfolding short_literal
short_is first inside last rest same all =
    rw (
      prefix_len_is (is_in_line first.character) inside (last ∷ rest) (lines_pass first.character inside all) (quote_fails first.character last rest same),
      take_at inside (last ∷ rest) (length inside) refl,
      drop_at inside (last ∷ rest) (length inside) refl,
      eq-eqb last.character first.character same,
    ) refl

literal_short : (first : Letter) (behind : List Letter) → begins_two first.character behind ≡ false → literal first behind ≡ short_literal first behind
unfolding literal
literal_short first behind h = rw h refl

pub short_read : (letters rest : List Letter) (first last : Letter) (inside : List Letter) (found : Lexeme) → letters ≡ first ∷ inside ++ last ∷ [] → last.character ≡ first.character → AreInLine first.character inside
    → (inside ≡ [] → Begins (λ c. eqb c first.character) (said rest) → ⊥) → found ≡ lexeme.Literal (utf8 inside) → IsFront literal letters rest (Some found)
short_read letters rest first last inside found e same all alone what =
    let more = inside ++ last ∷ [] in
    let long = length-append inside (last ∷ []) in
    let len : length inside + 1 ≡ length more = omega (arith, long) in
    record {
      first = first;
      more = more;
      letters_are = e;
      reads_so = literal_short first (more ++ rest) (short_begins first.character inside last rest all alone)
          ∙ ap (short_literal first) (append_assoc inside (last ∷ []) rest) ∙ short_is first inside last rest same all
          ∙ ap (λ x. Ok (front (Some x) (length inside + 1))) (sym what) ∙ ap (λ k. Ok (front (Some found) k)) len;
    }

-- ---- three quotes

-- two quotes among these letters and the two behind them
begins_two_among : (quote : ℕ) (inside : List Letter) (x y : Letter) (rest : List Letter) (back : List ℕ) → said inside ++ quote ∷ quote ∷ [] ≡ quote ∷ quote ∷ back → x.character ≡ quote → y.character ≡ quote → begins_two quote (inside ++ x ∷ y ∷ rest) ≡ true
unfolding begins_two
begins_two_among quote [] x y rest back e a b = both _ _ (eq-eqb x.character quote a) (eq-eqb y.character quote b)
begins_two_among quote (i ∷ []) x y rest back e a b = let is : i.character ≡ quote = cc in both _ _ (eq-eqb i.character quote is) (eq-eqb x.character quote a)
begins_two_among quote (i ∷ j ∷ inside) x y rest back e a b =
    let is : i.character ≡ quote = cc in
    let tail : j.character ∷ (said inside ++ quote ∷ quote ∷ []) ≡ quote ∷ back = ap (drop 1) e in
    let then_is : j.character ≡ quote = cc in
    both _ _ (eq-eqb i.character quote is) (eq-eqb j.character quote then_is)

-- the other way round
begun_two_among : (quote : ℕ) (inside : List Letter) (x y : Letter) (rest : List Letter) → begins_two quote (inside ++ x ∷ y ∷ rest) ≡ true → (back : List ℕ) × (said inside ++ quote ∷ quote ∷ [] ≡ quote ∷ quote ∷ back)
unfolding begins_two
begun_two_among quote [] x y rest h = ([], refl)
begun_two_among quote (i ∷ []) x y rest h =
    let parts = and_parts (eqb i.character quote) (eqb x.character quote) h in
    (quote ∷ [], ap (λ c. c ∷ quote ∷ quote ∷ []) (eqb-true i.character quote parts.0))
begun_two_among quote (i ∷ j ∷ inside) x y rest h =
    let parts = and_parts (eqb i.character quote) (eqb j.character quote) h in
    let tail = said inside ++ quote ∷ quote ∷ [] in
    (tail, ap (λ c. c ∷ j.character ∷ tail) (eqb-true i.character quote parts.0) ∙ ap (λ c. quote ∷ c ∷ tail) (eqb-true j.character quote parts.1))

three_at : (quote : ℕ) (x y z : Letter) (rest : List Letter) → x.character ≡ quote → y.character ≡ quote → z.character ≡ quote → begins_three quote (x ∷ y ∷ z ∷ rest) ≡ true
unfolding begins_three begins_two
three_at quote x y z rest a b d = both _ _ (eq-eqb x.character quote a) (both _ _ (eq-eqb y.character quote b) (eq-eqb z.character quote d))

three_not : (quote : ℕ) (i : Letter) (inside : List Letter) (x y : Letter) (rest : List Letter) → AreUpToThree quote (said (i ∷ inside)) → begins_three quote (i ∷ (inside ++ x ∷ y ∷ rest)) ≡ false
unfolding begins_three
three_not quote i inside x y rest none =
    elim (cases_Bool (eqb i.character quote && begins_two quote (inside ++ x ∷ y ∷ rest))) [
      | inl is ↦
          let parts = and_parts (eqb i.character quote) (begins_two quote (inside ++ x ∷ y ∷ rest)) is in
          let among = begun_two_among quote inside x y rest parts.1 in
          absurd (none [] among.0 (ap (λ c. c ∷ (said inside ++ quote ∷ quote ∷ [])) (eqb-true i.character quote parts.0) ∙ ap (λ (t : List ℕ). quote ∷ t) among.1))
      | inr is ↦ is
    ]

before_is : (quote : ℕ) (inside : List Letter) (x y z : Letter) (rest : List Letter) → x.character ≡ quote → y.character ≡ quote → z.character ≡ quote → AreUpToThree quote (said inside) → before_three quote (inside ++ x ∷ y ∷ z ∷ rest) ≡ Some (length inside)
unfolding before_three
before_is quote [] x y z rest a b d none = rw (three_at quote x y z rest a b d) refl
before_is quote (i ∷ inside) x y z rest a b d none =
    let later = before_is quote inside x y z rest a b d (λ front back e. none (i.character ∷ front) back (ap (λ (t : List ℕ). i.character ∷ t) e)) in
    let len : length inside + 1 ≡ suc (length inside) = omega arith in
    rw (three_not quote i inside x y (z ∷ rest) none, later) (ap Some len)

long_is : (first second third : Letter) (inside : List Letter) (x y z : Letter) (rest : List Letter) (quote : ℕ) → first.character ≡ quote → second.character ≡ quote → third.character ≡ quote
    → x.character ≡ quote → y.character ≡ quote → z.character ≡ quote → AreUpToThree quote (said inside)
    → literal first (second ∷ third ∷ (inside ++ x ∷ y ∷ z ∷ rest)) ≡ Ok (front (Some (lexeme.Literal (utf8 inside))) (length inside + 5))
unfolding literal long_literal begins_two
long_is first second third inside x y z rest quote p q r a b d none =
    let second_is : second.character ≡ first.character = q ∙ sym p in
    let third_is : third.character ≡ first.character = r ∙ sym p in
    let until : before_three first.character (inside ++ x ∷ y ∷ z ∷ rest) ≡ Some (length inside) = ap (λ c. before_three c (inside ++ x ∷ y ∷ z ∷ rest)) p ∙ before_is quote inside x y z rest a b d none in
    rw (eq-eqb second.character first.character second_is, eq-eqb third.character first.character third_is, until, take_at inside (x ∷ y ∷ z ∷ rest) (length inside) refl) refl

-- three letters that say three quotes
pub record Three (quote : ℕ) (letters : List Letter) : Type 0 where
  pub x : Letter
  pub y : Letter
  pub z : Letter
  pub letters_are : letters ≡ x ∷ y ∷ z ∷ []
  pub x_is : x.character ≡ quote
  pub y_is : y.character ≡ quote
  pub z_is : z.character ≡ quote

pub three_letters : (quote : ℕ) (letters : List Letter) → said letters ≡ three quote → Three quote letters
three_letters quote [] e = absurd cc
three_letters quote (x ∷ []) e = let tail : [] ≡ quote ∷ quote ∷ [] = ap (drop 1) e in absurd cc
three_letters quote (x ∷ y ∷ []) e = let tail : [] ≡ quote ∷ [] = ap (drop 2) e in absurd cc
three_letters quote (x ∷ y ∷ z ∷ []) e =
    let a : y.character ∷ z.character ∷ [] ≡ quote ∷ quote ∷ [] = ap (drop 1) e in
    let b : z.character ∷ [] ≡ quote ∷ [] = ap (drop 2) e in
    record { x = x; y = y; z = z; letters_are = refl; x_is = cc; y_is = cc; z_is = cc }
three_letters quote (x ∷ y ∷ z ∷ w ∷ letters) e = let tail : w.character ∷ said letters ≡ [] = ap (drop 3) e in absurd cc

pub long_read : (letters rest : List Letter) (quote : ℕ) (before inside behind : List Letter) (found : Lexeme) → letters ≡ before ++ inside ++ behind → said before ≡ three quote → said behind ≡ three quote
    → AreUpToThree quote (said inside) → found ≡ lexeme.Literal (utf8 inside) → IsFront literal letters rest (Some found)
long_read letters rest quote before inside behind found e opens closes none what =
    let o = three_letters quote before opens in
    let k = three_letters quote behind closes in
    let end = k.x ∷ k.y ∷ k.z ∷ [] in
    let more = o.y ∷ o.z ∷ (inside ++ end) in
    let long = length-append inside end in
    let len : length inside + 5 ≡ length more = omega (arith, long) in
    record {
      first = o.x;
      more = more;
      letters_are = e ∙ ap (λ (t : List Letter). t ++ inside ++ behind) o.letters_are ∙ ap (λ (t : List Letter). o.x ∷ o.y ∷ o.z ∷ (inside ++ t)) k.letters_are;
      reads_so = ap (λ (t : List Letter). literal o.x (o.y ∷ o.z ∷ t)) (append_assoc inside end rest)
          ∙ long_is o.x o.y o.z inside k.x k.y k.z rest quote o.x_is o.y_is o.z_is k.x_is k.y_is k.z_is none
          ∙ ap (λ x. Ok (front (Some x) (length inside + 5))) (sym what) ∙ ap (λ n. Ok (front (Some found) n)) len;
    }

-- ---- what is read stands there

-- no two quotes open it, so that an empty one has no quote behind it
alone : (first : Letter) (behind inside : List Letter) (last : Letter) (rest : List Letter) → begins_two first.character behind ≡ false → behind ≡ inside ++ last ∷ rest → eqb last.character first.character ≡ true → inside ≡ [] → Begins (λ c. eqb c first.character) (said rest) → ⊥
unfolding begins_two
alone first behind inside last [] two e is none begins = begins
alone first behind inside last (next ∷ rest) two e is none begins =
    let shape : behind ≡ last ∷ next ∷ rest = e ∙ ap (λ (t : List Letter). t ++ last ∷ next ∷ rest) none in
    let opens : begins_two first.character behind ≡ true = ap (begins_two first.character) shape ∙ both _ _ is begins in
    absurd cc

short_meant : (first : Letter) (behind inside rest : List Letter) → is_quote first.character ≡ true → begins_two first.character behind ≡ false → behind ≡ inside ++ rest → Pass (is_in_line first.character) inside → Meant first behind (closed first inside rest)
short_meant first behind inside [] quote two e all = (refl, quote)
short_meant first behind inside (last ∷ rest) quote two e all =
    elim (cases_Bool (eqb last.character first.character)) [
      | inl is ↦
          let same = eqb-true last.character first.character is in
          let long = length-append inside (last ∷ []) in
          rw is
          (is_meant first behind (inside ++ last ∷ []) rest (length inside + 1) (Some (lexeme.Literal (utf8 inside))) (e ∙ sym (append_assoc inside (last ∷ []) rest)) (omega (arith, long))
          (short_stands first last inside refl quote same (pass_lines first.character inside all) (alone first behind inside last rest two e is) refl))
      | inr is ↦ rw is (refl, quote)
    ]

-- where three quotes first stand
record BeforeThree (quote : ℕ) (letters : List Letter) (n : ℕ) : Type 0 where
  inside : List Letter
  x : Letter
  y : Letter
  z : Letter
  rest : List Letter
  letters_are : letters ≡ inside ++ x ∷ y ∷ z ∷ rest
  len : length inside ≡ n
  x_is : x.character ≡ quote
  y_is : y.character ≡ quote
  z_is : z.character ≡ quote
  none : AreUpToThree quote (said inside)

up_to_none : (quote : ℕ) → AreUpToThree quote []
up_to_none quote front back e =
    let len = ap length e in
    let a = length-append (front ++ three quote) back in
    let b = length-append front (three quote) in
    absurd (omega (arith, len, a, b))

three_first : (quote : ℕ) (letter : Letter) (letters : List Letter) (n : ℕ) → begins_three quote (letter ∷ letters) ≡ true → 0 ≡ n → BeforeThree quote (letter ∷ letters) n
unfolding begins_three begins_two
three_first quote letter [] n h e = let parts = and_parts (eqb letter.character quote) false h in absurd cc
three_first quote letter (next ∷ []) n h e = let parts = and_parts (eqb letter.character quote) false h in absurd cc
three_first quote letter (next ∷ third ∷ letters) n h e =
    let a = and_parts (eqb letter.character quote) (eqb next.character quote && eqb third.character quote) h in
    let b = and_parts (eqb next.character quote) (eqb third.character quote) a.1 in
    record {
      inside = [];
      x = letter;
      y = next;
      z = third;
      rest = letters;
      letters_are = refl;
      len = e;
      x_is = eqb-true letter.character quote a.0;
      y_is = eqb-true next.character quote b.0;
      z_is = eqb-true third.character quote b.1;
      none = up_to_none quote;
    }

longer_none : (quote : ℕ) (letter : Letter) (letters : List Letter) (n : ℕ) → begins_three quote (letter ∷ letters) ≡ false → (b : BeforeThree quote letters n) → AreUpToThree quote (said (letter ∷ b.inside))
unfolding begins_three
longer_none quote letter letters n h b [] back e =
    let is : letter.character ≡ quote = cc in
    let two = begins_two_among quote b.inside b.x b.y (b.z ∷ b.rest) back (ap (drop 1) e) b.x_is b.y_is in
    let here : begins_three quote (letter ∷ letters) ≡ true = both _ _ (eq-eqb letter.character quote is) (ap (begins_two quote) b.letters_are ∙ two) in
    absurd cc
longer_none quote letter letters n h b (c ∷ others) back e = b.none others back (ap (drop 1) e)

three_later : (quote : ℕ) (letter : Letter) (letters : List Letter) (n : ℕ) (found : Option ℕ) → begins_three quote (letter ∷ letters) ≡ false → before_three quote letters ≡ found → option_map (λ n. n + 1) found ≡ Some n
    → ((m : ℕ) → before_three quote letters ≡ Some m → BeforeThree quote letters m) → BeforeThree quote (letter ∷ letters) n
three_later quote letter letters n None h e k more = absurd cc
three_later quote letter letters n (Some m) h e k more =
    let b = more m e in
    let next : m + 1 ≡ n = cc in
    record {
      inside = letter ∷ b.inside;
      x = b.x;
      y = b.y;
      z = b.z;
      rest = b.rest;
      letters_are = ap (λ (t : List Letter). letter ∷ t) b.letters_are;
      len = let l = b.len in omega (arith, l, next);
      x_is = b.x_is;
      y_is = b.y_is;
      z_is = b.z_is;
      none = longer_none quote letter letters m h b;
    }

before_means : (quote : ℕ) (letters : List Letter) (n : ℕ) → before_three quote letters ≡ Some n → BeforeThree quote letters n
unfolding before_three
before_means quote [] n e = absurd cc
before_means quote (letter ∷ letters) n e =
    elim (chosen (begins_three quote (letter ∷ letters)) (Some 0) (option_map (λ n. n + 1) (before_three quote letters)) (Some n) e) [
      | inl (test, k) ↦ three_first quote letter letters n test cc
      | inr (test, k) ↦ three_later quote letter letters n (before_three quote letters) test refl k (before_means quote letters)
    ]

up_meant : (first second third : Letter) (inside : List Letter) (found : Option ℕ) → is_quote first.character ≡ true → second.character ≡ first.character → third.character ≡ first.character → before_three first.character inside ≡ found
    → Meant first (second ∷ third ∷ inside) (up_to_three first inside found)
up_meant first second third inside None quote a b e = (refl, quote)
up_meant first second third inside (Some n) quote a b e =
    let q = first.character in
    let m = before_means q inside n e in
    let end = m.x ∷ m.y ∷ m.z ∷ [] in
    let text : take n inside ≡ m.inside = ap (take n) m.letters_are ∙ take_at m.inside (m.x ∷ m.y ∷ m.z ∷ m.rest) n m.len in
    let long = length-append m.inside end in
    let len = m.len in
    let opens : said (first ∷ second ∷ third ∷ []) ≡ three q = ap (λ c. q ∷ c ∷ third.character ∷ []) a ∙ ap (λ c. q ∷ q ∷ c ∷ []) b in
    let closes : said end ≡ three q = ap (λ c. c ∷ m.y.character ∷ m.z.character ∷ []) m.x_is ∙ ap (λ c. q ∷ c ∷ m.z.character ∷ []) m.y_is ∙ ap (λ c. q ∷ q ∷ c ∷ []) m.z_is in
    is_meant first (second ∷ third ∷ inside) (second ∷ third ∷ (m.inside ++ end)) m.rest (n + 5) (Some (lexeme.Literal (utf8 (take n inside))))
    (ap (λ (t : List Letter). second ∷ third ∷ t) (m.letters_are ∙ sym (append_assoc m.inside end m.rest))) (omega (arith, long, len))
    (long_stands q (first ∷ second ∷ third ∷ []) m.inside end refl quote opens closes m.none (ap (λ (t : List Letter). lexeme.Literal (utf8 t)) text))

pub literal_meant : (first : Letter) (behind : List Letter) → is_quote first.character ≡ true → (two : Bool) → begins_two first.character behind ≡ two → Meant first behind (literal first behind)
unfolding literal short_literal long_literal begins_two
literal_meant first behind quote false two =
    let len = line_len first.character behind in
    rw two (short_meant first behind (take len behind) (drop len behind) quote two (sym (take-append-drop len behind)) (front_passes (is_in_line first.character) behind))
literal_meant first [] quote true two = absurd cc
literal_meant first (second ∷ []) quote true two = absurd cc
literal_meant first (second ∷ third ∷ inside) quote true two =
    let parts = and_parts (eqb second.character first.character) (eqb third.character first.character) two in
    rw two (up_meant first second third inside (before_three first.character inside) quote (eqb-true second.character first.character parts.0) (eqb-true third.character first.character parts.1) refl)
