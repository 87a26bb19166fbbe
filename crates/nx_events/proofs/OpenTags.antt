-- The open start tags and the run that tokens leave, one token after another.
use Rattle.std.proofs.Common.{◌≡◌, ◌≢◌, ℕ, ◌<◌, Bool, true, false, inl, inr, Option, Some, None, List, [], ◌∷◌, ◌++◌, length, refl, ap, subst, sym, ◌∙◌, arith, append_assoc, append-nil}
use Rattle.std.specs.List.{AllByRecursion}
use Rattle.std.specs.Str.{bytes_eq}
use Rattle.std.proofs.lemmas.Bool.{cases_Bool}
use Rattle.std.proofs.lemmas.Slice.Eq.{bytes_eq-Decides}
use Rattle.nx_base.specs.declared.token.Token.{Token}
use Rattle.nx_base.specs.declared.token.TokenKind.{TokenKind}
use Rattle.nx_base.specs.declared.token.TokenKind.TheVariants as kinds
use Rattle.nx_events.specs.Tags.{start_name, end_name}
use Rattle.nx_events.specs.OpenTags.{IsCharacterData, IsPassed, Leaves, nothing_read, start_tag, empty_tag, end_tag, extra_end, data_inside, data_outside, passed}

-- the start tags around the innermost one of the name
around_or : Token → Option (List Token) → Bool → Option (List Token)
around_or tag (Some outer) t = Some (tag ∷ outer)
around_or tag None true = Some []
around_or tag None false = None

pub around : List ℕ → List Token → Option (List Token)
around name [] = None
around name (tag ∷ inner) = around_or tag (around name inner) (bytes_eq (start_name tag.bytes) name)

abbrev NoneOf : List Token → List ℕ → Type 0
NoneOf tags name = AllByRecursion (λ (tag : Token). start_name tag.bytes ≢ name) tags

none_named : (name : List ℕ) (tags : List Token) → NoneOf tags name → around name tags ≡ None
unfolding around around_or
none_named name [] h = refl
none_named name (tag ∷ tags) h =
    elim (cases_Bool (bytes_eq (start_name tag.bytes) name)) [
      | inl e ↦ absurd (h.0 ((bytes_eq-Decides (start_name tag.bytes) name).0 e))
      | inr e ↦ ap (λ (o : Option (List Token)). around_or tag o (bytes_eq (start_name tag.bytes) name)) (none_named name tags h.1) ∙ ap (around_or tag None) e
    ]

innermost_named : (name : List ℕ) (outer : List Token) (closed : Token) (inner : List Token) → start_name closed.bytes ≡ name → NoneOf inner name →
    around name (outer ++ closed ∷ inner) ≡ Some outer
unfolding around around_or
innermost_named name [] closed inner e h =
    ap (λ (o : Option (List Token)). around_or closed o (bytes_eq (start_name closed.bytes) name)) (none_named name inner h)
    ∙ ap (around_or closed None) ((bytes_eq-Decides (start_name closed.bytes) name).1 e)
innermost_named name (tag ∷ outer) closed inner e h =
    ap (λ (o : Option (List Token)). around_or tag o (bytes_eq (start_name tag.bytes) name)) (innermost_named name outer closed inner e h)

-- and back
pub record Innermost (name : List ℕ) (outer tags : List Token) : Type 0 where
  pub closed : Token
  pub inner : List Token
  pub is : tags ≡ outer ++ closed ∷ inner
  pub named : start_name closed.bytes ≡ name
  pub others : NoneOf inner name

abbrev Found : List ℕ → List Token → Option (List Token) → Type 0
Found name tags None = NoneOf tags name
Found name tags (Some outer) = Innermost name outer tags

around_found : (name : List ℕ) (tags : List Token) → Found name tags (around name tags)
unfolding around around_or
around_found name [] = tt
around_found name (tag ∷ tags) = by_rest (around name tags) (around_found name tags)
  where
    by_test : NoneOf tags name → (t : Bool) → bytes_eq (start_name tag.bytes) name ≡ t → Found name (tag ∷ tags) (around_or tag None t)
    by_test h true e = record { closed = tag; inner = tags; is = refl; named = (bytes_eq-Decides (start_name tag.bytes) name).0 e; others = h }
    by_test h false e = ((λ k. let bad : true ≡ false = sym ((bytes_eq-Decides (start_name tag.bytes) name).1 k) ∙ e in absurd (cc)), h)

    by_rest : (found : Option (List Token)) → Found name tags found → Found name (tag ∷ tags) (around_or tag found (bytes_eq (start_name tag.bytes) name))
    by_rest (Some outer) h = record { closed = h.closed; inner = h.inner; is = ap (λ xs. tag ∷ xs) h.is; named = h.named; others = h.others }
    by_rest None h = by_test h (bytes_eq (start_name tag.bytes) name) refl

-- what is left so far, and behind one more token
pub record Left : Type 0 where
  pub tags : List Token
  pub run : List Token

abbrev pub left_as : List Token → List Token → Left
left_as tags run = record { tags = tags; run = run }

closed_left : Left → Option (List Token) → Left
closed_left left None = left
closed_left left (Some outer) = left_as outer []

data_left : Left → Token → List Token → Left
data_left left token [] = left
data_left left token (tag ∷ tags) = left_as left.tags (left.run ++ token ∷ [])

left_by : TokenKind → Left → Token → Left
left_by kinds.Start left token = left_as (left.tags ++ token ∷ []) []
left_by kinds.Empty left token = left_as left.tags []
left_by kinds.End left token = closed_left left (around (end_name token.bytes) left.tags)
left_by kinds.Text left token = data_left left token left.tags
left_by kinds.Cdata left token = data_left left token left.tags
left_by _ left token = left

left_behind : Left → List Token → Left
left_behind left [] = left
left_behind left (token ∷ others) = left_behind (left_by token.kind left token) others

one_more : (left : Left) (all : List Token) (token : Token) → left_behind left (all ++ token ∷ []) ≡ left_by token.kind (left_behind left all) token
unfolding left_behind
one_more left [] token = refl
one_more left (other ∷ all) token = one_more (left_by other.kind left other) all token

at_start : Left
at_start = left_as [] []

-- whatever is left is that
step_is : (all before : List Token) (token : Token) (left next : Left) → all ≡ before ++ token ∷ [] → left_behind at_start before ≡ left → left_by token.kind left token ≡ next → left_behind at_start all ≡ next
step_is all before token left next e f g = ap (left_behind at_start) e ∙ one_more at_start before token ∙ ap (λ (l : Left). left_by token.kind l token) f ∙ g

data_goes_on : (kind : TokenKind) (left : Left) (token : Token) → IsCharacterData kind → left_by kind left token ≡ data_left left token left.tags
unfolding left_by
data_goes_on kinds.Text left token h = refl
data_goes_on kinds.Cdata left token h = refl
data_goes_on _ left token h = absurd h

passed_goes_on : (kind : TokenKind) (left : Left) (token : Token) → IsPassed kind → left_by kind left token ≡ left
unfolding left_by
passed_goes_on kinds.Text left token h = absurd h
passed_goes_on kinds.Cdata left token h = absurd h
passed_goes_on kinds.Start left token h = absurd h
passed_goes_on kinds.Empty left token h = absurd h
passed_goes_on kinds.End left token h = absurd h
passed_goes_on _ left token h = refl

inside_goes_on : (tags joined : List Token) (token : Token) (others : List Token) → others ≡ tags → 0 < length tags → data_left (left_as tags joined) token others ≡ left_as tags (joined ++ token ∷ [])
unfolding data_left
inside_goes_on tags joined token [] e h = absurd (let k = ap length e in omega arith)
inside_goes_on tags joined token (tag ∷ others) e h = refl

outside_goes_on : (left : Left) (token : Token) (tags : List Token) → tags ≡ [] → data_left left token tags ≡ left
unfolding data_left
outside_goes_on left token tags e = ap (data_left left token) e

leaves_is : (all tags run : List Token) → Leaves all tags run → left_behind at_start all ≡ left_as tags run
unfolding left_behind left_by closed_left at_start
leaves_is all tags run (nothing_read _ _ _ e f g) = ap (left_behind at_start) e ∙ ap (λ xs. left_as xs []) (sym f) ∙ ap (left_as tags) (sym g)
leaves_is all tags run (start_tag _ _ _ before outer ended token h e k f g) =
    step_is all before token (left_as outer ended) (left_as tags run) e (leaves_is before outer ended h)
    (ap (λ kind. left_by kind (left_as outer ended) token) k ∙ ap (λ xs. left_as xs []) (sym f) ∙ ap (left_as tags) (sym g))
leaves_is all tags run (empty_tag _ _ _ before ended token h e k g) =
    step_is all before token (left_as tags ended) (left_as tags run) e (leaves_is before tags ended h)
    (ap (λ kind. left_by kind (left_as tags ended) token) k ∙ ap (left_as tags) (sym g))
leaves_is all tags run (end_tag _ _ _ before inner ended closed token h e k n o g) =
    step_is all before token (left_as (tags ++ closed ∷ inner) ended) (left_as tags run) e (leaves_is before (tags ++ closed ∷ inner) ended h)
    (ap (λ kind. left_by kind (left_as (tags ++ closed ∷ inner) ended) token) k
    ∙ ap (closed_left (left_as (tags ++ closed ∷ inner) ended)) (innermost_named (end_name token.bytes) tags closed inner n o) ∙ ap (left_as tags) (sym g))
leaves_is all tags run (extra_end _ _ _ before token h e k o) =
    step_is all before token (left_as tags run) (left_as tags run) e (leaves_is before tags run h)
    (ap (λ kind. left_by kind (left_as tags run) token) k ∙ ap (closed_left (left_as tags run)) (none_named (end_name token.bytes) tags o))
leaves_is all tags run (data_inside _ _ _ before joined token h e k lt g) =
    step_is all before token (left_as tags joined) (left_as tags run) e (leaves_is before tags joined h)
    (data_goes_on token.kind (left_as tags joined) token k ∙ inside_goes_on tags joined token tags refl lt ∙ ap (left_as tags) (sym g))
leaves_is all tags run (data_outside _ _ _ before token h e k f) =
    step_is all before token (left_as tags run) (left_as tags run) e (leaves_is before tags run h)
    (data_goes_on token.kind (left_as tags run) token k ∙ outside_goes_on (left_as tags run) token tags f)
leaves_is all tags run (passed _ _ _ before token h e k) =
    step_is all before token (left_as tags run) (left_as tags run) e (leaves_is before tags run h) (passed_goes_on token.kind (left_as tags run) token k)

-- one list of start tags and one run
pub leaves_one : (all tags run other more : List Token) → Leaves all tags run → Leaves all other more → (other ≡ tags) × (more ≡ run)
leaves_one all tags run other more h k =
    let both : left_as other more ≡ left_as tags run = sym (leaves_is all other more k) ∙ leaves_is all tags run h in
    (ap (λ (left : Left). left.tags) both, ap (λ (left : Left). left.run) both)

-- and there is one
pub record Some_left (all : List Token) : Type 0 where
  pub tags : List Token
  pub run : List Token
  pub leaves : Leaves all tags run

module _ (before : List Token) (token : Token) (tags run : List Token) (h : Leaves before tags run) where
  data_next : IsCharacterData token.kind → (others : List Token) → tags ≡ others → Some_left (before ++ token ∷ [])
  data_next k [] e = record { tags = tags; run = run; leaves = data_outside (before ++ token ∷ []) tags run before token h refl k e }
  data_next k (other ∷ others) e =
      record { tags = tags; run = run ++ token ∷ []; leaves = data_inside (before ++ token ∷ []) tags (run ++ token ∷ []) before run token h refl k (let n = ap length e in omega arith) refl }

  end_next : token.kind ≡ kinds.End → (found : Option (List Token)) → Found (end_name token.bytes) tags found → Some_left (before ++ token ∷ [])
  end_next k None o = record { tags = tags; run = run; leaves = extra_end (before ++ token ∷ []) tags run before token h refl k o }
  end_next k (Some outer) o =
      record {
        tags = outer;
        run = [];
        leaves = end_tag (before ++ token ∷ []) outer [] before o.inner run o.closed token (subst (λ xs. Leaves before xs run) o.is h) refl k o.named o.others refl;
      }

  by_kind : (kind : TokenKind) → token.kind ≡ kind → Some_left (before ++ token ∷ [])
  by_kind kinds.Start k = record { tags = tags ++ token ∷ []; run = []; leaves = start_tag (before ++ token ∷ []) (tags ++ token ∷ []) [] before tags run token h refl k refl refl }
  by_kind kinds.Empty k = record { tags = tags; run = []; leaves = empty_tag (before ++ token ∷ []) tags [] before run token h refl k refl }
  by_kind kinds.End k = end_next k (around (end_name token.bytes) tags) (around_found (end_name token.bytes) tags)
  by_kind kinds.Text k = data_next (subst (λ x. IsCharacterData x) (sym k) tt) tags refl
  by_kind kinds.Cdata k = data_next (subst (λ x. IsCharacterData x) (sym k) tt) tags refl
  by_kind _ k = record { tags = tags; run = run; leaves = passed (before ++ token ∷ []) tags run before token h refl (subst (λ x. IsPassed x) (sym k) tt) }

some_behind : (todo before tags run : List Token) → Leaves before tags run → Some_left (before ++ todo)
some_behind [] before tags run h = record { tags = tags; run = run; leaves = subst (λ xs. Leaves xs tags run) (sym (append-nil before)) h }
some_behind (token ∷ todo) before tags run h =
    let next = by_kind before token tags run h token.kind refl in
    subst (λ xs. Some_left xs) (append_assoc before (token ∷ []) todo) (some_behind todo (before ++ token ∷ []) next.tags next.run next.leaves)

pub some_left : (all : List Token) → Some_left all
some_left all = some_behind all [] [] [] (nothing_read [] [] [] refl refl refl)
