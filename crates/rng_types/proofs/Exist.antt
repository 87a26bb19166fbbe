-- `has_member` is true exactly where there is a member.
use Rattle.std.specs.Prelude.{◌≡◌, ◌≤◌, Bool, true, List, [], ◌∷◌, length}
use Rattle.std.proofs.Common.{refl}
use Rattle.std.proofs.lemmas.Bool.{and_parts, false≢true}
use Rattle.std.specs.List.{list_all}
use Rattle.rng_types.specs.WellMade.{suits, is_form, is_well_made}
use Rattle.rng_types.specs.MemberTest.{has_member, MembersExist, TextsGiveMembers}
use Rattle.rng_types.specs.declared.kind.Word.{Word}
use Rattle.rng_types.specs.declared.kind.Word.TheVariants.{Name, NcName, NmToken, Language, Boolean, Decimal, Integer}
use Rattle.rng_types.specs.declared.kind.Form.{Form}
use Rattle.rng_types.specs.declared.kind.Form.TheVariants.{Any, One, Several, More}
use Rattle.rng_types.specs.declared.facet.Facet.{Facet}
use Rattle.rng_types.specs.declared.facet.Facet.TheVariants.{Length, Bound}
use Rattle.rng_types.specs.declared.datatype.Datatype.{Datatype}
use Rattle.rng_types.specs.declared.datatype.Except.{Except}
use Rattle.rng_types.proofs.Numeric.{typed}
use Rattle.rng_types.proofs.Whole.{integer_sound, integer_complete}
use Rattle.rng_types.proofs.Decimals.{decimal_sound, decimal_complete}
use Rattle.rng_types.proofs.Texts.{text_sound, text_complete}
use Rattle.rng_types.proofs.Listed.{names, nc_names, nm_tokens, name_sound, name_complete, words_sound, words_complete, language_member}
use Rattle.rng_types.proofs.Truths.{truth_sound, truth_complete}
use Rattle.rng_types.proofs.MoreMembers.{more_sound, more_complete}
use Rattle.rng_types.proofs.Beside.{LeavesMember, LeavesText, member_left, text_left, has_text_left}

-- the test is true exactly where a member is left, whatever its characters
abbrev Tells : Datatype → List Except → Bool → Type 0
Tells type excepts one_token = (has_member type excepts one_token ≡ true → LeavesMember type excepts one_token) × (LeavesText type excepts one_token → has_member type excepts one_token ≡ true)

exist_language : (facets : List Facet) (excepts : List Except) (one_token : Bool) → list_all (suits (One Language)) facets ≡ true → LeavesMember (typed (One Language) facets) excepts one_token
exist_language [] excepts one_token suit = language_member excepts one_token
exist_language (Length relation limit ∷ facets) excepts one_token suit = absurd (false≢true suit)
exist_language (Bound relation limit ∷ facets) excepts one_token suit = absurd (false≢true suit)

exist_truth : (facets : List Facet) (excepts : List Except) (one_token : Bool) → list_all (suits (One Boolean)) facets ≡ true → Tells (typed (One Boolean) facets) excepts one_token
exist_truth [] excepts one_token suit = (λ has. truth_sound excepts one_token has, λ member. truth_complete excepts one_token member)
exist_truth (Length relation limit ∷ facets) excepts one_token suit = absurd (false≢true suit)
exist_truth (Bound relation limit ∷ facets) excepts one_token suit = absurd (false≢true suit)

exist_word : (word : Word) (facets : List Facet) (excepts : List Except) (one_token : Bool) → list_all (suits (One word)) facets ≡ true → length excepts ≤ 129 → Tells (typed (One word) facets) excepts one_token
exist_word Name facets excepts one_token suit few = (λ has. name_sound Name names facets excepts one_token suit few has, λ member. name_complete Name names facets excepts one_token suit member)
exist_word NcName facets excepts one_token suit few = (λ has. name_sound NcName nc_names facets excepts one_token suit few has, λ member. name_complete NcName nc_names facets excepts one_token suit member)
exist_word NmToken facets excepts one_token suit few = (λ has. name_sound NmToken nm_tokens facets excepts one_token suit few has, λ member. name_complete NmToken nm_tokens facets excepts one_token suit member)
exist_word Language facets excepts one_token suit few = (λ has. exist_language facets excepts one_token suit, λ member. refl)
exist_word Boolean facets excepts one_token suit few = exist_truth facets excepts one_token suit
exist_word Decimal facets excepts one_token suit few = (λ has. decimal_sound facets excepts one_token suit few has, λ member. decimal_complete facets excepts one_token suit member)
exist_word Integer facets excepts one_token suit few = (λ has. integer_sound facets excepts one_token suit few has, λ member. integer_complete facets excepts one_token suit member)

exist_words : (word : Word) (facets : List Facet) (excepts : List Except) (one_token : Bool) → is_form (Several word) ≡ true → list_all (suits (Several word)) facets ≡ true → length excepts ≤ 129 → Tells (typed (Several word) facets) excepts one_token
exist_words Name facets excepts one_token is suit few = (λ has. words_sound Name names facets excepts one_token suit few has, λ member. words_complete Name facets excepts one_token suit member)
exist_words NcName facets excepts one_token is suit few = (λ has. words_sound NcName nc_names facets excepts one_token suit few has, λ member. words_complete NcName facets excepts one_token suit member)
exist_words NmToken facets excepts one_token is suit few = (λ has. words_sound NmToken nm_tokens facets excepts one_token suit few has, λ member. words_complete NmToken facets excepts one_token suit member)
exist_words Language facets excepts one_token is suit few = absurd (false≢true is)
exist_words Boolean facets excepts one_token is suit few = absurd (false≢true is)
exist_words Decimal facets excepts one_token is suit few = absurd (false≢true is)
exist_words Integer facets excepts one_token is suit few = absurd (false≢true is)

exist_form : (form : Form) (facets : List Facet) (excepts : List Except) (one_token : Bool) → is_form form ≡ true → list_all (suits form) facets ≡ true → length excepts ≤ 129 → Tells (typed form facets) excepts one_token
exist_form (Any whitespace) facets excepts one_token is suit few = (λ has. text_sound whitespace facets excepts one_token suit few has, λ member. text_complete whitespace facets excepts one_token suit member)
exist_form (One word) facets excepts one_token is suit few = exist_word word facets excepts one_token suit few
exist_form (Several word) facets excepts one_token is suit few = exist_words word facets excepts one_token is suit few
exist_form (More more) facets excepts one_token is suit few = (λ has. more_sound more facets excepts one_token suit few has, λ member. more_complete more facets excepts one_token suit member)

told : (type : Datatype) (excepts : List Except) (one_token : Bool) → is_well_made type ≡ true → length excepts ≤ 129 → Tells type excepts one_token
told type excepts one_token made few =
    let parts = and_parts (is_form type.form) (list_all (suits type.form) type.facets) made in
    exist_form type.form type.facets excepts one_token parts.0 parts.1 few

pub members_exist : MembersExist
members_exist type excepts one_token made few =
    let tells = told type excepts one_token made few in
    (λ has. member_left type excepts one_token (tells.0 has), λ has. tells.1 (has_text_left type excepts one_token has))

pub texts_give_members : TextsGiveMembers
texts_give_members type excepts one_token text made few utf8 is =
    let tells = told type excepts one_token made few in
    member_left type excepts one_token (tells.0 (tells.1 (text_left type excepts one_token text utf8 is)))
