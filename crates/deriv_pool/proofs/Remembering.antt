-- Answers that are kept stay right while states come, and are found again.
use Rattle.std.specs.Prelude.{◌≡◌, ℕ, ◌<◌, List, [], length, Bool, true, false, is_some, Option, None, Some, IfSome}
use Rattle.std.specs.Map.{lookup}
use Rattle.std.specs.Coded.{coded_option, le_prop, Coded-set}
use Rattle.std.proofs.Common.{refl, sym, ap, subst, ◌∙◌, ⊎_elim, arith}
use Rattle.std.proofs.lemmas.Bool.{false≢true}
use Rattle.std.proofs.Math.Bool.{Bool-set}
use Rattle.std.proofs.Math.Logic.{∥∥₁_elim, ∥∥₁_map}
use Rattle.nx_base.specs.declared.name.Name.{Name}
use Rattle.rng_core.specs.Patterns.{Definition}
use Rattle.rng_kept.specs.Residuals.{Residual}
use Rattle.rng_kept.specs.Merging.{answered}
use Rattle.rng_kept.specs.Entering.{enter}
use Rattle.rng_kept.specs.Tags.{attribute_of}
use Rattle.rng_live.specs.Calls.{Answers, Call, call_enter, call_tag_end, call_leave}
use Rattle.deriv_states.specs.Places.{Places, LaterPlaces, state_in, IsState as IsNumber}
use Rattle.deriv_states.specs.Codes.{residual_code}
use Rattle.deriv_states.specs.Tables.{AreApart}
use Rattle.deriv_states.specs.Telling.{tells_values_of}
use Rattle.deriv_memory.specs.declared.asked.Asked.{Asked}
use Rattle.deriv_memory.specs.declared.asked.Asked.TheVariants as calls
use Rattle.deriv_memory.specs.Calls.{state_of, same_asked, calls_decided}
use Rattle.deriv_memory.specs.Remembered.{Remembered, noted, IsName, AreOnce, TextsGrow, LaterMemory, IsNoted}
use Rattle.deriv_memory.proofs.Laws.{one_name, noted_from}
use Rattle.deriv_pool.specs.Meaning.{IsState, means_in}
use Rattle.deriv_pool.specs.declared.state.PoolState.{PoolState}
use Rattle.deriv_pool.specs.Remembering.{name_in, a_blank, a_solid, behind, IsAlike, IsAsked, as_states, IsAnswer, AreAnswers, Asks, Remembers, KeepsNoted}

-- ---- answers stay

-- an answer by number means the same later
answer_stays : (old new : Places) (x : Option Residual) (answer : Option ℕ) → LaterPlaces old new
    → Answers (IsState old) (means_in old) x (as_states answer) → Answers (IsState new) (means_in new) x (as_states answer)
answer_stays old new x None later given = record { state = given.state; meaning = given.meaning }
answer_stays old new x (Some n) later given = record {
  state = omega (arith, given.state, later.states.grows);
  meaning = ap (λ r. Some r) (later.states.stays n given.state) ∙ given.meaning;
}

asked_of : (places : Places) (texts : List (List ℕ)) (call : Asked) → IsAsked places texts call → state_of call < length places.states
asked_of places texts (calls.Enter s ns local) asked = asked.0
asked_of places texts (calls.TagEnd s) asked = asked
asked_of places texts (calls.Leave s) asked = asked
asked_of places texts (calls.Blank s) asked = asked
asked_of places texts (calls.Solid s) asked = asked
asked_of places texts (calls.BlankValue s ns local) asked = asked.0
asked_of places texts (calls.SolidValue s ns local) asked = asked.0

asked_stays : (old new : Places) (before after : List (List ℕ)) (call : Asked) → LaterPlaces old new → TextsGrow before after
    → IsAsked old before call → IsAsked new after call
asked_stays old new before after (calls.Enter s ns local) later grown asked =
    (omega (arith, asked.0, later.states.grows), (omega (arith, asked.1.0, grown.grows), omega (arith, asked.1.1, grown.grows)))
asked_stays old new before after (calls.TagEnd s) later grown asked = omega (arith, asked, later.states.grows)
asked_stays old new before after (calls.Leave s) later grown asked = omega (arith, asked, later.states.grows)
asked_stays old new before after (calls.Blank s) later grown asked = omega (arith, asked, later.states.grows)
asked_stays old new before after (calls.Solid s) later grown asked = omega (arith, asked, later.states.grows)
asked_stays old new before after (calls.BlankValue s ns local) later grown asked =
    (omega (arith, asked.0, later.states.grows), (omega (arith, asked.1.0, grown.grows), omega (arith, asked.1.1, grown.grows)))
asked_stays old new before after (calls.SolidValue s ns local) later grown asked =
    (omega (arith, asked.0, later.states.grows), (omega (arith, asked.1.0, grown.grows), omega (arith, asked.1.1, grown.grows)))

-- the name of numbers that are there is the same later
name_stays_at : (before after : List (List ℕ)) (ns local : ℕ) → TextsGrow before after → ns < length before → local < length before
    → name_in before ns local ≡ name_in after ns local
name_stays_at before after ns local grown one other =
    let first = sym (grown.stays ns one) in
    let second = sym (grown.stays local other) in
    λ i. record { ns = first i; local = second i }

behind_stays : (g : List Definition) (places : Places) (before after : List (List ℕ)) (call : Asked) (x : Residual) → TextsGrow before after
    → IsAsked places before call → behind g before call x ≡ behind g after call x
behind_stays g places before after (calls.Enter s ns local) x grown asked =
    ap (λ (n : Name). enter g n x) (name_stays_at before after ns local grown asked.1.0 asked.1.1)
behind_stays g places before after (calls.TagEnd s) x grown asked = refl
behind_stays g places before after (calls.Leave s) x grown asked = refl
behind_stays g places before after (calls.Blank s) x grown asked = refl
behind_stays g places before after (calls.Solid s) x grown asked = refl
behind_stays g places before after (calls.BlankValue s ns local) x grown asked =
    ap (λ (n : Name). attribute_of n a_blank x) (name_stays_at before after ns local grown asked.1.0 asked.1.1)
behind_stays g places before after (calls.SolidValue s ns local) x grown asked =
    ap (λ (n : Name). attribute_of n a_solid x) (name_stays_at before after ns local grown asked.1.0 asked.1.1)

-- and so is what the residual tells of it
alike_stays : (places : Places) (before after : List (List ℕ)) (call : Asked) (x : Residual) → TextsGrow before after
    → IsAsked places before call → IsAlike before call x → IsAlike after call x
alike_stays places before after (calls.Enter s ns local) x grown asked alike = alike
alike_stays places before after (calls.TagEnd s) x grown asked alike = alike
alike_stays places before after (calls.Leave s) x grown asked alike = alike
alike_stays places before after (calls.Blank s) x grown asked alike = alike
alike_stays places before after (calls.Solid s) x grown asked alike = alike
alike_stays places before after (calls.BlankValue s ns local) x grown asked alike =
    ap (λ (n : Name). tells_values_of n x) (sym (name_stays_at before after ns local grown asked.1.0 asked.1.1)) ∙ alike
alike_stays places before after (calls.SolidValue s ns local) x grown asked alike =
    ap (λ (n : Name). tells_values_of n x) (sym (name_stays_at before after ns local grown asked.1.0 asked.1.1)) ∙ alike

is_answer_later : (g : List Definition) (old new : Places) (before after : List (List ℕ)) (call : Asked) (answer : Option ℕ) → LaterPlaces old new
    → TextsGrow before after → IsAnswer g old before call answer → IsAnswer g new after call answer
is_answer_later g old new before after call answer later grown is =
    let s = state_of call in
    let at : state_in old.states s ≡ state_in new.states s = sym (later.states.stays s (asked_of old before call is.asked)) in
    let P : Residual → Type 0 = λ x. Answers (IsState new) (means_in new) (answered x) (as_states answer) in
    let Q : Residual → Type 0 = λ x. IsAlike after call x in
    record {
      asked = asked_stays old new before after call later grown is.asked;
      alike = subst Q at (alike_stays old before after call (state_in old.states s) grown is.asked is.alike);
      gives = subst P (behind_stays g old before after call (state_in old.states s) grown is.asked ∙ ap (λ x. behind g after call x) at)
          (answer_stays old new _ answer later is.gives);
    }

-- while states come, and names get numbers
pub answers_later : (g : List Definition) (old new : Places) (before after : Remembered) → LaterPlaces old new → TextsGrow before.texts after.texts
    → after.answers ≡ before.answers → ∥ AreAnswers g old before ∥₁ → ∥ AreAnswers g new after ∥₁
answers_later g old new before after later grown same right =
    ∥∥₁_map right (λ all call answer is. is_answer_later g old new before.texts after.texts call answer later grown
    (all call answer (sym (ap (λ l. lookup (same_asked call) l) same) ∙ is)))

-- and when one more is noted
pub answers_noted : (g : List Definition) (places : Places) (old new : Remembered) (call : Asked) (answer : Option ℕ) → IsNoted old new call answer
    → IsAnswer g places old.texts call answer → ∥ AreAnswers g places old ∥₁ → ∥ AreAnswers g places new ∥₁
answers_noted g places old new call answer note is right =
    ∥∥₁_map right (λ all other r kept.
    let P : List (List ℕ) → Type 0 = λ ts. IsAnswer g places ts other r in
    subst P (sym note.texts) (⊎_elim
    (λ one.
    let Q : Asked → Type 0 = λ c. IsAnswer g places old.texts c r in
    let R : Option ℕ → Type 0 = λ a. IsAnswer g places old.texts call a in
    subst Q (sym one.0) (subst R (sym one.1) is))
    (λ before. all other r before)
    (noted_from old new call answer note other r kept)))

texts_same : (texts : List (List ℕ)) → TextsGrow texts texts
texts_same texts = record { grows = omega arith; stays = λ i here. refl }

-- while states come alone
pub answers_on : (g : List Definition) (old new : Places) (memory : Remembered) → LaterPlaces old new → ∥ AreAnswers g old memory ∥₁ → ∥ AreAnswers g new memory ∥₁
answers_on g old new memory later right = answers_later g old new memory memory later (texts_same memory.texts) refl right

-- what was just answered may be kept
pub answer_is : (g : List Definition) (old new : Places) (texts : List (List ℕ)) (call : Asked) (s : ℕ) (x : Residual) (answer : Option ℕ)
    (found : Option PoolState) → LaterPlaces old new → IsAsked old texts call → IsAlike texts call (state_in old.states s) → state_of call ≡ s
    → s < length old.states
    → x ≡ behind g texts call (state_in old.states s) → as_states answer ≡ found → Answers (IsState new) (means_in new) (answered x) found
    → IsAnswer g new texts call answer
answer_is g old new texts call s x answer found later asked alike of here is number given =
    let at : state_in old.states s ≡ state_in new.states (state_of call) =
    sym (later.states.stays s here) ∙ ap (λ n. state_in new.states n) (sym of) in
    let P : Residual → Type 0 = λ y. Answers (IsState new) (means_in new) (answered y) (as_states answer) in
    let Q : Option PoolState → Type 0 = λ r. Answers (IsState new) (means_in new) (answered x) r in
    let R : Residual → Type 0 = λ y. IsAlike texts call y in
    record {
      asked = asked_stays old new texts texts call later (texts_same texts) asked;
      alike = subst R at alike;
      gives = subst P (is ∙ ap (λ y. behind g texts call y) at) (subst Q (sym number) given);
    }

-- where nothing was noted
pub none_noted : (g : List Definition) (places : Places) (memory : Remembered) → ((call : Asked) → noted memory call ≡ None) → AreAnswers g places memory
none_noted g places memory none = λ call answer kept.
    let two : None ≡ Some answer = sym (none call) ∙ kept in
    let e : false ≡ true = ap is_some two in
    absurd (false≢true e)

-- ---- what is kept is found again

found_state : (g : List Definition) (places : Places) (memory : Remembered) (call : Asked) (answer : Option ℕ) → ∥ AreAnswers g places memory ∥₁
    → noted memory call ≡ Some answer → IfSome (as_states answer) (IsState places)
found_state g places memory call None right is = tt
found_state g places memory call (Some n) right is = ∥∥₁_elim right le_prop (λ all. (all call (Some n) is).gives.state)

pub found_answer : (g : List Definition) (places : Places) (memory : Remembered) (call : Asked) (answer : Option ℕ) → ∥ AreAnswers g places memory ∥₁
    → noted memory call ≡ Some answer
    → Answers (IsState places) (means_in places) (answered (behind g memory.texts call (state_in places.states (state_of call)))) (as_states answer)
found_answer g places memory call answer right is = record {
  state = found_state g places memory call answer right is;
  meaning = ∥∥₁_elim right (Coded-set (coded_option residual_code) _ _) (λ all. (all call answer is).gives.meaning);
}

-- and what was said of it when it was noted
pub found_alike : (g : List Definition) (places : Places) (memory : Remembered) (call : Asked) (answer : Option ℕ) → ∥ AreAnswers g places memory ∥₁
    → noted memory call ≡ Some answer → IsAlike memory.texts call (state_in places.states (state_of call))
found_alike g places memory (calls.Enter s ns local) answer right is = tt
found_alike g places memory (calls.TagEnd s) answer right is = tt
found_alike g places memory (calls.Leave s) answer right is = tt
found_alike g places memory (calls.Blank s) answer right is = ∥∥₁_elim right (Bool-set _ _) (λ all. (all (calls.Blank s) answer is).alike)
found_alike g places memory (calls.Solid s) answer right is = ∥∥₁_elim right (Bool-set _ _) (λ all. (all (calls.Solid s) answer is).alike)
found_alike g places memory (calls.BlankValue s ns local) answer right is =
    ∥∥₁_elim right (Bool-set _ _) (λ all. (all (calls.BlankValue s ns local) answer is).alike)
found_alike g places memory (calls.SolidValue s ns local) answer right is =
    ∥∥₁_elim right (Bool-set _ _) (λ all. (all (calls.SolidValue s ns local) answer is).alike)

-- the numbers of a name are of that name
pub name_is : (texts : List (List ℕ)) (name : Name) (numbers : ℕ × ℕ) → IsName texts name numbers → name_in texts numbers.0 numbers.1 ≡ name
name_is texts name numbers is =
    let ns = is.ns.meaning in
    let local = is.local.meaning in
    λ i. record { ns = ns i; local = local i }

-- ---- calls that are remembered

same_state : (places : Places) (s t : ℕ) (x : Residual) → AreApart [] places.states → s < length places.states → state_in places.states s ≡ x → IsNumber places x t → t ≡ s
same_state places s t x apart here is means = apart t s means.there here (means.meaning ∙ sym is)

is_enter : (n m : Name) → call_enter n ≡ call_enter m → n ≡ m
is_enter n m e = ap name_of e
  where
    name_of : Call → Name
    name_of (call_enter k) = k
    name_of call_tag_end = n
    name_of call_leave = n

abbrev is_kind : Call → ℕ
is_kind (call_enter n) = 0
is_kind call_tag_end = 1
is_kind call_leave = 2

none_kept : (memory : Remembered) (call other : Asked) → other ≡ call → is_some (noted memory call) ≡ false → is_some (noted memory other) ≡ true → ⊥
none_kept memory call other same none kept =
    let P : Asked → Type 0 = λ c. is_some (noted memory c) ≡ true in
    false≢true (sym none ∙ subst P same kept)

-- of a name that has no number no start is remembered
pub no_name : (places : Places) (memory : Remembered) (x : Residual) (name : Name) → ((ns local : ℕ) → IsName memory.texts name (ns, local) → ⊥)
    → Remembers places memory x (call_enter name) → ⊥
no_name places memory x name none kept = by kept.asked kept.asks
  where
    by : (call : Asked) → Asks places memory.texts call x (call_enter name) → ⊥
    by (calls.Enter s ns local) asks =
        let P : Name → Type 0 = λ n. IsName memory.texts n (ns, local) in
        none ns local (subst P (sym (is_enter name asks.1.0 asks.1.1.0)) asks.1.1.1)
    by (calls.TagEnd s) asks = absurd (let e : 0 ≡ 1 = ap is_kind asks.1 in omega (arith, e))
    by (calls.Leave s) asks = absurd (let e : 0 ≡ 2 = ap is_kind asks.1 in omega (arith, e))
    by (calls.Blank s) asks = absurd asks
    by (calls.Solid s) asks = absurd asks
    by (calls.BlankValue s ns local) asks = absurd asks
    by (calls.SolidValue s ns local) asks = absurd asks

-- of a state and a name of which no start was noted none is remembered
pub no_start : (places : Places) (memory : Remembered) (s ns local : ℕ) (name : Name) → AreApart [] places.states → AreOnce memory.texts
    → s < length places.states → IsName memory.texts name (ns, local) → is_some (noted memory (calls.Enter s ns local)) ≡ false
    → Remembers places memory (state_in places.states s) (call_enter name) → ⊥
no_start places memory s ns local name apart once here is none kept = by kept.asked kept.asks kept.kept
  where
    by : (call : Asked) → Asks places memory.texts call (state_in places.states s) (call_enter name) → is_some (noted memory call) ≡ true → ⊥
    by (calls.Enter t ms other) asks some =
        let P : Name → Type 0 = λ n. IsName memory.texts n (ms, other) in
        let numbers = one_name memory.texts name (ms, other) (ns, local) once (subst P (sym (is_enter name asks.1.0 asks.1.1.0)) asks.1.1.1) is in
        let state : t ≡ s = same_state places s t _ apart here refl asks.0 in
        none_kept memory (calls.Enter s ns local) (calls.Enter t ms other)
        (ap (λ k. calls.Enter k ms other) state ∙ ap (λ (p : ℕ × ℕ). calls.Enter s p.0 p.1) numbers) none some
    by (calls.TagEnd t) asks some = absurd (let e : 0 ≡ 1 = ap is_kind asks.1 in omega (arith, e))
    by (calls.Leave t) asks some = absurd (let e : 0 ≡ 2 = ap is_kind asks.1 in omega (arith, e))
    by (calls.Blank t) asks some = absurd asks
    by (calls.Solid t) asks some = absurd asks
    by (calls.BlankValue t ms other) asks some = absurd asks
    by (calls.SolidValue t ms other) asks some = absurd asks

pub no_tag_end : (places : Places) (memory : Remembered) (s : ℕ) → AreApart [] places.states → s < length places.states
    → is_some (noted memory (calls.TagEnd s)) ≡ false → Remembers places memory (state_in places.states s) call_tag_end → ⊥
no_tag_end places memory s apart here none kept = by kept.asked kept.asks kept.kept
  where
    by : (call : Asked) → Asks places memory.texts call (state_in places.states s) call_tag_end → is_some (noted memory call) ≡ true → ⊥
    by (calls.Enter t ms other) asks some = absurd (let e : 1 ≡ 0 = ap is_kind asks.1.1.0 in omega (arith, e))
    by (calls.TagEnd t) asks some = none_kept memory (calls.TagEnd s) (calls.TagEnd t) (ap (λ k. calls.TagEnd k) (same_state places s t _ apart here refl asks.0)) none some
    by (calls.Leave t) asks some = absurd (let e : 1 ≡ 2 = ap is_kind asks.1 in omega (arith, e))
    by (calls.Blank t) asks some = absurd asks
    by (calls.Solid t) asks some = absurd asks
    by (calls.BlankValue t ms other) asks some = absurd asks
    by (calls.SolidValue t ms other) asks some = absurd asks

pub no_leave : (places : Places) (memory : Remembered) (s : ℕ) → AreApart [] places.states → s < length places.states
    → is_some (noted memory (calls.Leave s)) ≡ false → Remembers places memory (state_in places.states s) call_leave → ⊥
no_leave places memory s apart here none kept = by kept.asked kept.asks kept.kept
  where
    by : (call : Asked) → Asks places memory.texts call (state_in places.states s) call_leave → is_some (noted memory call) ≡ true → ⊥
    by (calls.Enter t ms other) asks some = absurd (let e : 2 ≡ 0 = ap is_kind asks.1.1.0 in omega (arith, e))
    by (calls.TagEnd t) asks some = absurd (let e : 2 ≡ 1 = ap is_kind asks.1 in omega (arith, e))
    by (calls.Leave t) asks some = none_kept memory (calls.Leave s) (calls.Leave t) (ap (λ k. calls.Leave k) (same_state places s t _ apart here refl asks.0)) none some
    by (calls.Blank t) asks some = absurd asks
    by (calls.Solid t) asks some = absurd asks
    by (calls.BlankValue t ms other) asks some = absurd asks
    by (calls.SolidValue t ms other) asks some = absurd asks

-- ---- later

pub keeps_later : (old new : Remembered) → LaterMemory old new → KeepsNoted old new
keeps_later old new later = record { texts = later.texts; calls = λ call some. by call (noted old call) refl some }
  where
    by : (call : Asked) (r : Option (Option ℕ)) → noted old call ≡ r → is_some (noted old call) ≡ true → is_some (noted new call) ≡ true
    by call None is some = absurd (false≢true (sym (ap is_some is) ∙ some))
    by call (Some answer) is some = ap is_some (later.answers call answer is)

pub keeps_noted : (old new : Remembered) (call : Asked) (answer : Option ℕ) → IsNoted old new call answer → KeepsNoted old new
keeps_noted old new call answer note = record {
  texts =
      let P : List (List ℕ) → Type 0 = λ ts. TextsGrow old.texts ts in
      subst P (sym note.texts) (record { grows = omega arith; stays = λ i here. refl });
  calls = λ other some. by other (same_asked other call) refl some;
}
  where
    by : (other : Asked) (b : Bool) → same_asked other call ≡ b → is_some (noted old other) ≡ true → is_some (noted new other) ≡ true
    by other true same some =
        let P : Asked → Type 0 = λ c. is_some (noted new c) ≡ true in
        subst P (sym ((calls_decided other call).0 same)) (ap is_some note.here)
    by other false apart some = ap is_some (note.others other (λ same. false≢true (sym apart ∙ (calls_decided other call).1 same))) ∙ some
