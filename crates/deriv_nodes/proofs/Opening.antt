-- Openings while nodes come behind.
use Rattle.std.proofs.Common.{◌≡◌, ℕ, zero, suc, ◌<◌, ◌+◌, List, [], ◌∷◌, ◌++◌, length, map, set, get_or, refl, sym, ap, append_assoc, ◌∙◌, arith, ◌==◌, Bool, true, false, cond, not, ◌||◌, if◌then◌else◌}
use Rattle.std.specs.List.{position_or_len, list_any}
use Rattle.std.proofs.lemmas.List.{map-append}
use Rattle.rng_core.specs.Patterns.{Pattern}
use Rattle.rng_kept.specs.SmallPatterns.{choice_of, star}
use Rattle.rng_kept.specs.Openings.{Opening, opening, added, joined, then_group, then_interleave, under_interleave}
use Rattle.rng_kept.specs.Nullable.{nullable}
use Rattle.rng_kept.specs.Skipping.{ending}
use Rattle.rng_kept.specs.Entering.{has_number}
use Rattle.deriv_nodes.specs.declared.openings.Open.{Open}
use Rattle.deriv_nodes.specs.declared.openings.Place.{Place}
use Rattle.deriv_nodes.specs.declared.openings.Place.TheVariants.{InGroup}
use Rattle.deriv_nodes.specs.Numbers.{at, Later, IsAt}
use Rattle.deriv_nodes.specs.Opened.{opening_at, openings_at, AreNodes, AreOpened, rest_of, placed}

pub later_chain : (a b c : List Pattern) → Later a b → Later b c → Later a c
later_chain a b c one other = record {
  grows = omega (arith, one.grows, other.grows);
  stays = λ i here. other.stays i (omega (arith, one.grows, here)) ∙ one.stays i here;
}

pub nodes_stay : (old new : List Pattern) (os : List Open) → Later old new → AreNodes old os → AreNodes new os
nodes_stay old new [] later are = tt
nodes_stay old new (o ∷ os) later are = (omega (arith, later.grows, are.0), nodes_stay old new os later are.1)

pub openings_stay : (old new : List Pattern) (os : List Open) → Later old new → AreNodes old os → openings_at new os ≡ openings_at old os
openings_stay old new [] later are = refl
openings_stay old new (o ∷ os) later are =
    ap (λ p. opening o.number p ∷ openings_at new os) (later.stays o.rest are.0)
    ∙ ap (λ ps. opening o.number (at old o.rest) ∷ ps) (openings_stay old new os later are.1)

pub opened_stay : (old new : List Pattern) (xs : List Opening) (os : List Open) → Later old new → AreOpened old xs os → AreOpened new xs os
opened_stay old new xs os later are = record {
  rests = nodes_stay old new os later are.rests;
  meaning = openings_stay old new os later are.rests ∙ are.meaning;
}

pub rest_there : (nodes : List Pattern) (os : List Open) (k : ℕ) (d : Open) → AreNodes nodes os → k < length os
    → (get_or os k d).rest < length nodes
rest_there nodes [] k d are here = absurd (omega (arith, here))
rest_there nodes (o ∷ os) zero d are here = are.0
rest_there nodes (o ∷ os) (suc k) d are here = rest_there nodes os k d are.1 (omega (arith, here))

pub nodes_more : (nodes : List Pattern) (os : List Open) (o : Open) → AreNodes nodes os → o.rest < length nodes → AreNodes nodes (os ++ o ∷ [])
nodes_more nodes [] o are one = (one, tt)
nodes_more nodes (x ∷ os) o are one = (are.0, nodes_more nodes os o are.1 one)

nodes_set : (nodes : List Pattern) (os : List Open) (k : ℕ) (x : Open) → AreNodes nodes os → x.rest < length nodes → AreNodes nodes (set os k x)
nodes_set nodes [] k x are one = tt
nodes_set nodes (o ∷ os) zero x are one = (one, are.1)
nodes_set nodes (o ∷ os) (suc k) x are one = (are.0, nodes_set nodes os k x are.1 one)

-- the first opening isn't the one that is looked for
passed : (b : Bool) (n l : ℕ) (x y : Opening) (xs ys zs : List Opening) → cond (not b) (1 + n) 0 ≡ suc l → (n ≡ l → xs ≡ ys)
    → (if b then y ∷ zs else x ∷ xs) ≡ x ∷ ys
passed true n l x y xs ys zs h rest = absurd (omega (arith, h))
passed false n l x y xs ys zs h rest = ap (λ more. x ∷ more) (rest (omega (arith, h)))

-- it is
met : (b : Bool) (n : ℕ) (x y : Opening) (xs zs : List Opening) → cond (not b) (1 + n) 0 ≡ 0 → y ≡ x → (if b then y ∷ xs else zs) ≡ x ∷ xs
met true n x y xs zs h e = ap (λ z. z ∷ xs) e
met false n x y xs zs h e = absurd (omega (arith, h))

module _ (nodes : List Pattern) where
  -- where no opening has the number, one more comes behind
  added_behind : (i : ℕ) (r : Pattern) (os : List Open) → position_or_len (λ o. i == o.number) os ≡ length os
      → added i r (openings_at nodes os) ≡ openings_at nodes os ++ opening i r ∷ []
  added_behind i r [] h = refl
  added_behind i r (o ∷ os) h =
      passed (i == o.number) (position_or_len (λ p. i == p.number) os) (length os) (opening_at nodes o) _ _ _ _ h (λ e. added_behind i r os e)

  pub added_last : (os : List Open) (more : Open) → position_or_len (λ o. more.number == o.number) os ≡ length os
      → AreNodes nodes os → more.rest < length nodes
      → AreOpened nodes (added more.number (at nodes more.rest) (openings_at nodes os)) (os ++ more ∷ [])
  added_last os more h are one = record {
    rests = nodes_more nodes os more are one;
    meaning = map-append (opening_at nodes) os (more ∷ []) ∙ sym (added_behind more.number (at nodes more.rest) os h);
  }

-- where one has it, the rests of both are left by it
added_at : (old new : List Pattern) (i : ℕ) (r : Pattern) (os : List Open) (k : ℕ) (x d : Open) → Later old new → AreNodes old os
    → position_or_len (λ o. i == o.number) os ≡ k → k < length os
    → opening_at new x ≡ opening (get_or os k d).number (choice_of (at old (get_or os k d).rest) r)
    → added i r (openings_at old os) ≡ openings_at new (set os k x)
added_at old new i r [] k x d later are h w e = absurd (omega (arith, w))
added_at old new i r (o ∷ os) zero x d later are h w e =
    met (i == o.number) (position_or_len (λ p. i == p.number) os) (opening_at new x) _ (openings_at old os) _ h (sym e)
    ∙ ap (λ ps. opening_at new x ∷ ps) (sym (openings_stay old new os later are.1))
added_at old new i r (o ∷ os) (suc k) x d later are h w e =
    passed (i == o.number) (position_or_len (λ p. i == p.number) os) k (opening_at old o) _ _ _ _ h
    (λ f. added_at old new i r os k x d later are.1 f (omega (arith, w)) e)
    ∙ ap (λ p. opening o.number p ∷ openings_at new (set os k x)) (sym (later.stays o.rest are.0))

pub added_there : (old new : List Pattern) (i : ℕ) (r : Pattern) (os : List Open) (k : ℕ) (x d : Open) → Later old new → AreNodes old os
    → position_or_len (λ o. i == o.number) os ≡ k → k < length os → x.number ≡ (get_or os k d).number
    → IsAt new (choice_of (at old (get_or os k d).rest) r) x.rest
    → AreOpened new (added i r (openings_at old os)) (set os k x)
added_there old new i r os k x d later are h w number is = record {
  rests = nodes_set new os k x (nodes_stay old new os later are) is.node;
  meaning = sym (added_at old new i r os k x d later are h w
      (ap (λ n. opening n (at new x.rest)) number ∙ ap (λ p. opening (get_or os k d).number p) is.meaning));
}

-- ---- lists of openings, one by one

pub joined_more : (old new : List Pattern) (os : List Open) (one : Open) (rest made : List Open) (all : List Opening) → Later old new
    → AreNodes old rest → AreOpened new (added one.number (at old one.rest) (openings_at old os)) made
    → joined (openings_at old os) (openings_at old (one ∷ rest)) ≡ all
    → joined (openings_at new made) (openings_at new rest) ≡ all
joined_more old new os one rest made all later are is same =
    ap (λ xs. joined xs (openings_at new rest)) is.meaning
    ∙ (ap (λ xs. joined (added one.number (at old one.rest) (openings_at old os)) xs) (openings_stay old new rest later are) ∙ same)

pub placed_more : (old new : List Pattern) (place : Place) (side : ℕ) (made : List Open) (one : Open) (rest : List Open) (r : ℕ)
    (all : List Opening) → Later old new → AreNodes old made → AreNodes old rest → side < length old
    → IsAt new (rest_of place (at old side) (at old one.rest)) r
    → openings_at old made ++ map (placed place (at old side)) (openings_at old (one ∷ rest)) ≡ all
    → openings_at new (made ++ record { number = one.number; rest = r } ∷ []) ++ map (placed place (at new side)) (openings_at new rest) ≡ all
placed_more old new place side made one rest r all later before behind here is same =
    let x : Opening = placed place (at old side) (opening_at old one) in
    let o : Open = record { number = one.number; rest = r } in
    let others : List Opening = map (placed place (at old side)) (openings_at old rest) in
    let front : openings_at new (made ++ o ∷ []) ≡ openings_at old made ++ x ∷ []
    = map-append (opening_at new) made (o ∷ []) ∙ (ap (λ xs. xs ++ opening_at new o ∷ []) (openings_stay old new made later before)
    ∙ ap (λ p. openings_at old made ++ opening one.number p ∷ []) is.meaning) in
    let back : map (placed place (at new side)) (openings_at new rest) ≡ others
    = ap (λ p. map (placed place p) (openings_at new rest)) (later.stays side here)
    ∙ ap (λ xs. map (placed place (at old side)) xs) (openings_stay old new rest later behind) in
    ap (λ xs. xs ++ map (placed place (at new side)) (openings_at new rest)) front
    ∙ (ap (λ xs. (openings_at old made ++ x ∷ []) ++ xs) back ∙ (append_assoc (openings_at old made) (x ∷ []) others ∙ same))

pub number_found : (nodes : List Pattern) (i : ℕ) (os : List Open) → list_any (λ o. i == o.number) os ≡ has_number i (openings_at nodes os)
number_found nodes i [] = refl
number_found nodes i (o ∷ os) = ap (λ found. (i == o.number) || found) (number_found nodes i os)

-- ---- openings of parts, of which the first were made before the others

pub both_placed : (old mid new : List Pattern) (p q : Place) (a b : ℕ) (first second fs ss : List Open) → Later old mid → Later mid new
    → AreNodes old second → a < length old → AreOpened mid (map (placed p (at old b)) (openings_at old first)) fs
    → AreOpened new (map (placed q (at mid a)) (openings_at mid second)) ss
    → joined (openings_at new fs) (openings_at new ss)
    ≡ joined (map (placed p (at old b)) (openings_at old first)) (map (placed q (at old a)) (openings_at old second))
both_placed old mid new p q a b first second fs ss later more nodes here one other =
    ap (λ xs. joined xs (openings_at new ss)) (openings_stay mid new fs more one.rests ∙ one.meaning)
    ∙ ap (λ xs. joined (map (placed p (at old b)) (openings_at old first)) xs)
    (other.meaning ∙ (ap (λ s. map (placed q s) (openings_at mid second)) (later.stays a here)
    ∙ ap (λ xs. map (placed q (at old a)) xs) (openings_stay old mid second later nodes)))

pub both_opened : (old mid new : List Pattern) (f : Pattern → List Opening) (xs : List Opening) (b : ℕ) (fs ss : List Open) → Later old mid
    → Later mid new → b < length old → AreOpened mid xs fs → AreOpened new (f (at mid b)) ss
    → joined (openings_at new fs) (openings_at new ss) ≡ joined xs (f (at old b))
both_opened old mid new f xs b fs ss later more here one other =
    ap (λ ys. joined ys (openings_at new ss)) (openings_stay mid new fs more one.rests ∙ one.meaning)
    ∙ ap (λ ys. joined xs ys) (other.meaning ∙ ap f (later.stays b here))

pub ends_placed : (old mid new : List Pattern) (a b x y : ℕ) (first second : List Open) → Later old mid → Later mid new → AreNodes old first
    → AreNodes old second → b < length old → IsAt mid (ending (at old a)) x → IsAt new (ending (at mid b)) y
    → joined (map (then_interleave (at new y)) (openings_at new first)) (map (under_interleave (at new x)) (openings_at new second))
    ≡ joined (map (then_interleave (ending (at old b))) (openings_at old first)) (map (under_interleave (ending (at old a))) (openings_at old second))
ends_placed old mid new a b x y first second later more firsts seconds here one other =
    let all = later_chain old mid new later more in
    let last : at new y ≡ ending (at old b) = other.meaning ∙ ap ending (later.stays b here) in
    let front : at new x ≡ ending (at old a) = more.stays x one.node ∙ one.meaning in
    ap (λ q. joined (map (then_interleave q) (openings_at new first)) (map (under_interleave (at new x)) (openings_at new second))) last
    ∙ (ap (λ q. joined (map (then_interleave (ending (at old b))) (openings_at new first)) (map (under_interleave q) (openings_at new second))) front
    ∙ (ap (λ xs. joined (map (then_interleave (ending (at old b))) xs) (map (under_interleave (ending (at old a))) (openings_at new second)))
    (openings_stay old new first all firsts)
    ∙ ap (λ xs. joined (map (then_interleave (ending (at old b))) (openings_at old first)) (map (under_interleave (ending (at old a))) xs))
    (openings_stay old new second all seconds)))

pub many_placed : (old mid : List Pattern) (body more : ℕ) (opened : List Open) → Later old mid → AreNodes old opened
    → IsAt mid (star (at old body)) more
    → map (placed InGroup (at mid more)) (openings_at mid opened) ≡ map (then_group (star (at old body))) (openings_at old opened)
many_placed old mid body more opened later nodes is =
    ap (λ q. map (then_group q) (openings_at mid opened)) is.meaning
    ∙ ap (λ xs. map (then_group (star (at old body))) xs) (openings_stay old mid opened later nodes)

-- the same, told otherwise
pub told_as : (nodes : List Pattern) (xs ys : List Opening) (os : List Open) → xs ≡ ys → AreOpened nodes xs os → AreOpened nodes ys os
told_as nodes xs ys os same are = record { rests = are.rests; meaning = are.meaning ∙ same }

shown : {T : Type 0} (b : Bool) (xs : List T) → b ≡ true → (if b then xs else []) ≡ xs
shown true xs is = refl
shown false xs is = cc

pub group_opened : (old one two new : List Pattern) (f : Pattern → List Opening) (a b : ℕ) (os fs ss : List Open) → Later old one
    → Later one two → Later two new → b < length old → AreOpened one (f (at old a)) os
    → AreOpened two (map (placed InGroup (at one b)) (openings_at one os)) fs → AreOpened new (f (at two b)) ss
    → joined (openings_at new fs) (openings_at new ss) ≡ joined (map (then_group (at old b)) (f (at old a))) (f (at old b))
group_opened old one two new f a b os fs ss first next more here part whole other =
    let front : openings_at two fs ≡ map (then_group (at old b)) (f (at old a))
    = whole.meaning ∙ (ap (λ s. map (then_group s) (openings_at one os)) (first.stays b here)
    ∙ ap (λ xs. map (then_group (at old b)) xs) part.meaning) in
    let there : b < length one = omega (arith, here, first.grows) in
    ap (λ ys. joined ys (openings_at new ss)) (openings_stay two new fs more whole.rests ∙ front)
    ∙ ap (λ ys. joined (map (then_group (at old b)) (f (at old a))) ys) (other.meaning ∙ ap f (next.stays b there ∙ first.stays b here))

pub null_opened : (old two : List Pattern) (a : ℕ) (xs ys zs : List Opening) (found : Bool) → found ≡ nullable (at two a) → found ≡ true
    → at two a ≡ at old a → zs ≡ joined xs ys → zs ≡ joined xs (if nullable (at old a) then ys else [])
null_opened old two a xs ys zs found told yes_ same is =
    is ∙ ap (λ ws. joined xs ws) (sym (shown (nullable (at old a)) ys (sym (ap nullable same) ∙ (sym told ∙ yes_))))

pub interleave_opened : (old one two : List Pattern) (f : Pattern → List Opening) (a b : ℕ) (fs ss : List Open) → Later old one → Later one two
    → a < length old → b < length old → AreOpened one (f (at old a)) fs → AreOpened two (f (at one b)) ss
    → joined (map (then_interleave (at two b)) (openings_at two fs)) (map (under_interleave (at two a)) (openings_at two ss))
    ≡ joined (map (then_interleave (at old b)) (f (at old a))) (map (under_interleave (at old a)) (f (at old b)))
interleave_opened old one two f a b fs ss first more here_a here_b part other =
    let all = later_chain old one two first more in
    ap (λ q. joined (map (then_interleave q) (openings_at two fs)) (map (under_interleave (at two a)) (openings_at two ss))) (all.stays b here_b)
    ∙ (ap (λ q. joined (map (then_interleave (at old b)) (openings_at two fs)) (map (under_interleave q) (openings_at two ss))) (all.stays a here_a)
    ∙ (ap (λ xs. joined (map (then_interleave (at old b)) xs) (map (under_interleave (at old a)) (openings_at two ss)))
    (openings_stay one two fs more part.rests ∙ part.meaning)
    ∙ ap (λ xs. joined (map (then_interleave (at old b)) (f (at old a))) (map (under_interleave (at old a)) xs))
    (other.meaning ∙ ap f (first.stays b here_b))))

pub ends_opened : (old one two : List Pattern) (f : Pattern → List Opening) (a b : ℕ) (fs ss : List Open) → Later old one → Later one two
    → a < length old → b < length old → AreOpened one (f (at old a)) fs → AreOpened two (f (at one b)) ss
    → joined (map (then_interleave (ending (at two b))) (openings_at two fs)) (map (under_interleave (ending (at two a))) (openings_at two ss))
    ≡ joined (map (then_interleave (ending (at old b))) (f (at old a))) (map (under_interleave (ending (at old a))) (f (at old b)))
ends_opened old one two f a b fs ss first more here_a here_b part other =
    let all = later_chain old one two first more in
    ap (λ q. joined (map (then_interleave (ending q)) (openings_at two fs)) (map (under_interleave (ending (at two a))) (openings_at two ss)))
    (all.stays b here_b)
    ∙ (ap (λ q. joined (map (then_interleave (ending (at old b))) (openings_at two fs)) (map (under_interleave (ending q)) (openings_at two ss)))
    (all.stays a here_a)
    ∙ (ap (λ xs. joined (map (then_interleave (ending (at old b))) xs) (map (under_interleave (ending (at old a))) (openings_at two ss)))
    (openings_stay one two fs more part.rests ∙ part.meaning)
    ∙ ap (λ xs. joined (map (then_interleave (ending (at old b))) (f (at old a))) (map (under_interleave (ending (at old a))) xs))
    (other.meaning ∙ ap f (first.stays b here_b))))
