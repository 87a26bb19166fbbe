-- Truth values have a member exactly where one of their literals is left.
use Rattle.std.specs.Prelude.{◌∷◌, ◌≡◌, ◌≤◌, ℕ, Bool, true, false, ◌&&◌, List, [], length, codes}
use Rattle.std.proofs.Common.{subst, refl, sym, ap, ◌∙◌, inl, inr, arith}
use Rattle.std.proofs.lemmas.Bool.{false≢true, and_parts, and_from, or_cases}
use Rattle.std.specs.List.{list_all, join_with_byte}
use Rattle.std.specs.Str.{bytes_eq}
use Rattle.std.specs.Cmp.Lexicographic.{bytes_decides}
use Rattle.rng_types.specs.Spaces.{is_some_text, collapsed}
use Rattle.rng_types.specs.Words.{is_true, is_false, is_word}
use Rattle.rng_types.specs.Types.{Accepts}
use Rattle.rng_types.specs.WellMade.{is_well_made}
use Rattle.rng_types.specs.TextMembers.{truths, is_truth_left, has_truth}
use Rattle.rng_types.specs.declared.kind.Word.TheVariants.{Boolean}
use Rattle.rng_types.specs.declared.kind.Form.{Form}
use Rattle.rng_types.specs.declared.kind.Form.TheVariants.{One}
use Rattle.rng_types.specs.declared.facet.Facet.{Facet}
use Rattle.rng_types.specs.declared.facet.Facet.TheVariants.{Length, Bound}
use Rattle.rng_types.specs.declared.datatype.Datatype.{Datatype}
use Rattle.rng_types.specs.declared.datatype.Except.{Except}
use Rattle.rng_types.proofs.Collapsed.{words-collapsed}
use Rattle.rng_types.proofs.Plain.{IsPlain, collapsed-plain, seen-plain}
use Rattle.rng_types.proofs.Numeric.{typed}
use Rattle.rng_types.proofs.Padded.{spaced_one, spaced_member, left_spaced, left_spaced_alike}
use Rattle.rng_types.proofs.Printable.{is_printed, plain_printed}
use Rattle.rng_types.proofs.Within.{In, all_at, any_from, passing}
use Rattle.rng_types.proofs.Beside.{LeavesMember, LeavesText, LeavesOne}
use Rattle.rng_types.specs.Giving.{pad}

abbrev truth_type : Datatype
truth_type = typed (One Boolean) []

abbrev is_truth : List ℕ → Bool
is_truth text = is_some_text text && (list_all is_printed text && is_word Boolean text)

truths_are : list_all is_truth truths ≡ true
truths_are = refl

record IsTruth (text : List ℕ) : Type 0 where
  plain : IsPlain text
  accepted : Accepts truth_type text

truth_at : (text : List ℕ) → In text truths → IsTruth text
truth_at text inside =
    let parts = and_parts (is_some_text text) (list_all is_printed text && is_word Boolean text) (all_at is_truth text truths truths_are inside) in
    let more = and_parts (list_all is_printed text) (is_word Boolean text) parts.1 in
    let plain = plain_printed text parts.0 more.0 in
    record { plain = plain; accepted = record { form = ap (is_word Boolean) (seen-plain truth_type text plain.word) ∙ more.1; facets = refl } }

truth_member : (excepts : List Except) (one_token : Bool) (text : List ℕ) → IsTruth text → is_truth_left truth_type excepts one_token text ≡ true → LeavesMember truth_type excepts one_token
truth_member excepts true text is left = (text, record { characters = is.plain.characters; accepted = is.accepted; left = left; token = λ asked. and_from _ _ is.plain.word.some is.plain.word.bare })
truth_member excepts false text is left = spaced_member truth_type refl excepts text is.plain.characters is.accepted left

truth_left_one : (excepts : List Except) (one_token : Bool) → length excepts ≤ 129 → (text : List ℕ) → IsTruth text → is_truth_left truth_type excepts one_token text ≡ true → LeavesOne truth_type excepts one_token (λ i. pad i text) 130
unfolding pad
truth_left_one excepts true few text is left =
    record { at = 0; below = omega arith; is = record { characters = is.plain.characters; accepted = is.accepted; left = left; token = λ asked. and_from _ _ is.plain.word.some is.plain.word.bare } }
truth_left_one excepts false few text is left = spaced_one truth_type refl excepts text 130 (omega (arith, few)) is.plain.characters is.accepted left

-- and the candidates of which one is left: the literal with spaces before it
pub truth_one : (excepts : List Except) (one_token : Bool) → length excepts ≤ 129 → has_truth truth_type excepts one_token ≡ true → (text : List ℕ) × (In text truths) × LeavesOne truth_type excepts one_token (λ i. pad i text) 130
truth_one excepts one_token few has =
    let found = passing (is_truth_left truth_type excepts one_token) truths has in
    (found.item, found.inside, truth_left_one excepts one_token few found.item (truth_at found.item found.inside) found.is)

pub truth_sound : (excepts : List Except) (one_token : Bool) → has_truth truth_type excepts one_token ≡ true → LeavesMember truth_type excepts one_token
truth_sound excepts one_token has =
    let found = passing (is_truth_left truth_type excepts one_token) truths has in
    truth_member excepts one_token found.item (truth_at found.item found.inside) found.is

same_text : (a b : List ℕ) → bytes_eq a b ≡ true → a ≡ b
same_text a b same = (bytes_decides a b).0 same

truth_inside : (text : List ℕ) → is_word Boolean text ≡ true → In text truths
truth_inside text fits =
    elim (or_cases (is_true text) (is_false text) fits) [
      | inl truth ↦ elim (or_cases (bytes_eq text (codes "true")) (bytes_eq text (codes "1")) truth) [
        | inl first ↦ inl (same_text text (codes "true") first)
        | inr second ↦ inr (inl (same_text text (codes "1") second))
      ]
      | inr falsity ↦ elim (or_cases (bytes_eq text (codes "false")) (bytes_eq text (codes "0")) falsity) [
        | inl first ↦ inr (inr (inl (same_text text (codes "false") first)))
        | inr second ↦ inr (inr (inr (inl (same_text text (codes "0") second))))
      ]
    ]

pub truth_complete : (excepts : List Except) (one_token : Bool) → LeavesText truth_type excepts one_token → has_truth truth_type excepts one_token ≡ true
truth_complete excepts true member =
    let text : List ℕ = member.0 in
    let parts = and_parts (is_some_text text) _ (member.1.token refl) in
    let tight : collapsed text ≡ text = collapsed-plain text (record { some = parts.0; bare = parts.1 }) in
    any_from (is_truth_left truth_type excepts true) text truths (truth_inside text (ap (is_word Boolean) (sym tight) ∙ member.1.accepted.form)) member.1.left
truth_complete excepts false member =
    let text : List ℕ = member.0 in
    let twice : collapsed (collapsed text) ≡ collapsed text = ap (join_with_byte 32) (words-collapsed text) in
    any_from (is_truth_left truth_type excepts false) (collapsed text) truths (truth_inside (collapsed text) member.1.accepted.form)
    (left_spaced_alike truth_type (collapsed text) text twice twice excepts ∙ left_spaced truth_type text excepts member.1.left)

-- each literal is accepted by a type of truth values
accepted_case : (facets : List Facet) (text : List ℕ) → is_well_made (typed (One Boolean) facets) ≡ true → In text truths → Accepts (typed (One Boolean) facets) text
accepted_case [] text made inside = (truth_at text inside).accepted
accepted_case (Length relation limit ∷ facets) text made inside = absurd (false≢true made)
accepted_case (Bound relation limit ∷ facets) text made inside = absurd (false≢true made)

accepted_at : (form : Form) (facets : List Facet) (text : List ℕ) → form ≡ One Boolean → is_well_made (typed form facets) ≡ true → In text truths → Accepts (typed form facets) text
accepted_at form facets text is made inside =
    let P : Form → Type 0 = λ f. is_well_made (typed f facets) ≡ true → Accepts (typed f facets) text in
    subst P (sym is) (λ made'. accepted_case facets text made' inside) made

pub truth_accepted : (type : Datatype) (text : List ℕ) → type.form ≡ One Boolean → is_well_made type ≡ true → In text truths → Accepts type text
truth_accepted type text is made inside = accepted_at type.form type.facets text is made inside
