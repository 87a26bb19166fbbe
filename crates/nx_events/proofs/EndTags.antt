-- An end tag that is a name alone.
use Rattle.std.proofs.Common.{◌≡◌, ◌∙◌, ℕ, ◌+◌, ◌<◌, true, false, List, length, take, drop, get_or, sym, ap, arith, length-drop}
use Rattle.std.specs.List.{position_or_len}
use Rattle.std.specs.Str.{byte}
use Rattle.std.proofs.lemmas.List.{length-take-le, get_or-take, get_or-drop}
use Rattle.std.proofs.lemmas.List.Sums.{position_or_len_is}
use Rattle.nx_base.specs.Characters.{is_space}
use Rattle.nx_events.specs.Tags.{ends_name, written_name, end_name}

angle_ends : (b : ℕ) → b ≡ byte ">" → ends_name b ≡ true
unfolding is_space
angle_ends b is = ap ends_name is

-- its name ends at the `>`, where no byte before that ends it
pub end_name_is : (n : ℕ) (bytes name : List ℕ) → n + 3 ≡ length bytes → get_or bytes (n + 2) 0 ≡ byte ">" → name ≡ take n (drop 2 bytes) →
    ((k : ℕ) → k < length name → ends_name (get_or name k 0) ≡ false) → name ≡ end_name bytes
unfolding written_name
end_name_is n bytes name long last is goes_on =
    let rest = drop 2 bytes in
    let behind : length rest ≡ n + 1 = (let k = length-drop 2 bytes in omega (arith, k, long)) in
    let len : length name ≡ n = ap length is ∙ length-take-le n rest (omega (arith, behind)) in
    let place : 2 + n ≡ n + 2 = omega arith in
    let closes : get_or rest n 0 ≡ byte ">" = get_or-drop 2 bytes n 0 ∙ ap (λ (k : ℕ). get_or bytes k 0) place ∙ last in
    let ends : position_or_len ends_name rest ≡ n =
    position_or_len_is ends_name rest n 0 (omega (arith, behind))
    (λ k less. ap ends_name (sym (get_or-take n rest k 0 less) ∙ sym (ap (λ xs. get_or xs k 0) is)) ∙ goes_on k (omega (arith, len, less)))
    (λ _. angle_ends (get_or rest n 0) closes) in
    is ∙ ap (λ (k : ℕ). take k rest) (sym ends)
