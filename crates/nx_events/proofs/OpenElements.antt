-- Open elements, from the innermost on.
use Rattle.std.proofs.Common.{◌≡◌, ℕ, suc, ◌-◌, ◌<◌, ◌≤◌, List, [], ◌∷◌, ◌++◌, length, take, get_or, reverse, ap, sym, ◌∙◌, arith, append_assoc}
use Rattle.std.proofs.Math.Seq.{take-suc}
use Rattle.std.proofs.lemmas.List.{reverse-append}
use Rattle.std.specs.List.{flat_map}
use Rattle.nx_base.specs.declared.fault.Kind.{Kind}
use Rattle.nx_base.specs.declared.fault.Span.{Span}
use Rattle.nx_events.specs.declared.item.Item.{Item}
use Rattle.nx_events.specs.declared.state.OpenElement.{OpenElement}
use Rattle.nx_events.specs.Items.{left_out}

-- the last of the first n
split : (xs : List OpenElement) (n : ℕ) (e : OpenElement) → 0 < n → n ≤ length xs → e ≡ get_or xs (n - 1) e → take n xs ≡ take (n - 1) xs ++ e ∷ []
split xs n e h k f =
    let one : n ≡ suc (n - 1) = omega arith in
    ap (λ (m : ℕ). take m xs) one ∙ take-suc xs (n - 1) e (omega arith) ∙ ap (λ (c : OpenElement). take (n - 1) xs ++ c ∷ []) (sym f)

reverse_last : (xs : List OpenElement) (e : OpenElement) → reverse (xs ++ e ∷ []) ≡ e ∷ reverse xs
reverse_last xs e = reverse-append xs (e ∷ [])

pub left_out_more : (kind : Kind) (span : Span) (xs : List OpenElement) (n : ℕ) (e : OpenElement) (old new all : List Item) → 0 < n → n ≤ length xs → e ≡ get_or xs (n - 1) e →
    new ≡ old ++ left_out kind span e → old ++ flat_map (left_out kind span) (reverse (take n xs)) ≡ all →
    new ++ flat_map (left_out kind span) (reverse (take (n - 1) xs)) ≡ all
left_out_more kind span xs n e old new all h k f m g =
    let turned = ap reverse (split xs n e h k f) ∙ reverse_last (take (n - 1) xs) e in
    let step = ap (flat_map (left_out kind span)) turned in
    rw (m, append_assoc) (ap (λ (ys : List Item). old ++ ys) (sym step) ∙ g)
