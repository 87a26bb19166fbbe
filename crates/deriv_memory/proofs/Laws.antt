-- What follows of a memory for those who keep one.
use Rattle.std.proofs.Common.{◌≡◌, ℕ, zero, suc, ◌<◌, List, [], ◌∷◌, ◌++◌, length, length-append, refl, sym, ap, ◌∙◌, subst, arith, slice_index_or, Option, Some, None, Bool, true, false, ◌⊎◌, inl, inr}
use Rattle.nx_base.specs.declared.name.Name.{Name}
use Rattle.deriv_memory.specs.declared.asked.Asked.{Asked}
use Rattle.deriv_memory.specs.Calls.{same_asked, calls_decided}
use Rattle.deriv_memory.specs.Remembered.{Remembered, noted, IsText, IsName, IsAtMostOneMore, AreOnce, TextsGrow, LaterMemory, IsNoted}
use Rattle.std.specs.Map.{lookup}
use Rattle.std.proofs.lemmas.Bool.{true≢false}

-- ---- later memories

-- a memory is later than itself
pub later_same : (m : Remembered) → LaterMemory m m
later_same m = record { texts = record { grows = omega arith; stays = λ i here. refl }; answers = λ call answer is. is }

-- later than a later one
pub later_chain : (a b c : Remembered) → LaterMemory a b → LaterMemory b c → LaterMemory a c
later_chain a b c first second = record {
  texts = record {
    grows = omega (arith, first.texts.grows, second.texts.grows);
    stays = λ i here. second.texts.stays i (omega (arith, here, first.texts.grows)) ∙ first.texts.stays i here;
  };
  answers = λ call answer is. second.answers call answer (first.answers call answer is);
}

read_before : (texts : List (List ℕ)) (text : List ℕ) (i : ℕ) → i < length texts
    → slice_index_or (texts ++ text ∷ []) i [] ≡ slice_index_or texts i []
read_before [] text i here = absurd (omega (arith, here))
read_before (t ∷ ts) text zero here = refl
read_before (t ∷ ts) text (suc i) here = read_before ts text i (omega (arith, here))

one_more : (old new : List (List ℕ)) (text : List ℕ) → IsAtMostOneMore old new text → TextsGrow old new
one_more old new text (inl same) = let P : List (List ℕ) → Type 0 = λ ts. TextsGrow old ts in
    subst P (sym same) (record { grows = omega arith; stays = λ i here. refl })
one_more old new text (inr more) = let P : List (List ℕ) → Type 0 = λ ts. TextsGrow old ts in
    subst P (sym more) (record { grows = omega (arith, length-append old (text ∷ [])); stays = λ i here. read_before old text i here })

-- where one text is put last at most
pub later_by_text : (old new : Remembered) (text : List ℕ) → IsAtMostOneMore old.texts new.texts text → new.answers ≡ old.answers → LaterMemory old new
later_by_text old new text more same = record {
  texts = one_more old.texts new.texts text more;
  answers = λ call answer is. ap (λ l. lookup (same_asked call) l) same ∙ is;
}

-- a text has its number later
pub text_stays : (old new : List (List ℕ)) (text : List ℕ) (i : ℕ) → TextsGrow old new → IsText old text i → IsText new text i
text_stays old new text i grown is =
    record { there = omega (arith, is.there, grown.grows); meaning = grown.stays i is.there ∙ is.meaning }

-- and so has a name
pub name_stays : (old new : List (List ℕ)) (name : Name) (numbers : ℕ × ℕ) → TextsGrow old new → IsName old name numbers → IsName new name numbers
name_stays old new name numbers grown is = record {
  ns = text_stays old new name.ns numbers.0 grown is.ns;
  local = text_stays old new name.local numbers.1 grown is.local;
}

-- ---- names by numbers

-- equal texts have one number
pub one_number : (texts : List (List ℕ)) (text : List ℕ) (i j : ℕ) → AreOnce texts → IsText texts text i → IsText texts text j → i ≡ j
one_number texts text i j once one other = once i j one.there other.there (one.meaning ∙ sym other.meaning)

-- equal names have equal numbers
pub one_name : (texts : List (List ℕ)) (name : Name) (m n : ℕ × ℕ) → AreOnce texts → IsName texts name m → IsName texts name n → m ≡ n
one_name texts name m n once one other =
    let ns = one_number texts name.ns m.0 n.0 once one.ns other.ns in
    let local = one_number texts name.local m.1 n.1 once one.local other.local in
    λ i. (ns i, local i)

-- equal numbers are of equal names
pub same_name : (texts : List (List ℕ)) (one other : Name) (numbers : ℕ × ℕ) → IsName texts one numbers → IsName texts other numbers → one ≡ other
same_name texts one other numbers first second =
    let ns : one.ns ≡ other.ns = sym first.ns.meaning ∙ second.ns.meaning in
    let local : one.local ≡ other.local = sym first.local.meaning ∙ second.local.meaning in
    λ i. record { ns = ns i; local = local i }

-- ---- answers

-- where nothing was noted of a call, all answers stay when it is noted
pub later_noted : (old new : Remembered) (call : Asked) (answer : Option ℕ) → IsNoted old new call answer → noted old call ≡ None → LaterMemory old new
later_noted old new call answer is none = record {
  texts =
      let P : List (List ℕ) → Type 0 = λ ts. TextsGrow old.texts ts in
      subst P (sym is.texts) (later_same old).texts;
  answers = λ other r kept.
      is.others other (λ same.
      let P : Asked → Type 0 = λ a. noted old a ≡ Some r in
      let here : noted old call ≡ Some r = subst P same kept in
      let two : None ≡ Some r = sym none ∙ here in cc)
      ∙ kept;
}

-- what is noted is the one that was noted last, or was noted before
pub noted_from : (old new : Remembered) (call : Asked) (answer : Option ℕ) → IsNoted old new call answer
    → (other : Asked) (r : Option ℕ) → noted new other ≡ Some r → ((other ≡ call) × (r ≡ answer)) ⊎ (noted old other ≡ Some r)
noted_from old new call answer is other r kept = by (same_asked other call) refl
  where
    by : (b : Bool) → same_asked other call ≡ b → ((other ≡ call) × (r ≡ answer)) ⊎ (noted old other ≡ Some r)
    by true same =
        let one = (calls_decided other call).0 same in
        let P : Asked → Type 0 = λ a. noted new a ≡ Some r in
        let here : noted new call ≡ Some r = subst P one kept in
        let two : Some r ≡ Some answer = sym here ∙ is.here in
        let answers : r ≡ answer = cc in
        inl (one, answers)
    by false apart = inr (sym (is.others other (λ same. true≢false (sym ((calls_decided other call).1 same) ∙ apart))) ∙ kept)
