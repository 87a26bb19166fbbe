-- The messages that bytes begin with.
use Rattle.std.proofs.Common.{◌≡◌, ℕ, ◌+◌, ◌<◌, ◌≤◌, List, [], ◌∷◌, ◌++◌, length, take, drop, refl, sym, ap, subst, arith}
use Rattle.std.proofs.lemmas.List.{length-take-le, length-drop, length-append}
use Rattle.httparse.specs.Grammar.{LineEnd, crlf, lf, print_end, print_field, print_section}
use Rattle.std.specs.List.{flat_map}
use Rattle.nx_wire.specs.Frames.{IsFrame}
use Rattle.nx_protocol.specs.Runs.{AreFrames}

ends : (last : LineEnd) → 0 < length (print_end last)
ends crlf = omega arith
ends lf = omega arith

-- a message has a head
pub head_is_some : (text : List ℕ) (at len : ℕ) → at + len ≤ length text → IsFrame text (take len (drop at text)) (drop len (drop at text)) → 0 < at
head_is_some text at len within f =
    let whole : length text ≡ length (print_section f.fields f.last ++ (take len (drop at text) ++ drop len (drop at text))) = ap length f.reads.1 in
    let parts = length-append (print_section f.fields f.last) (take len (drop at text) ++ drop len (drop at text)) in
    let halves = length-append (take len (drop at text)) (drop len (drop at text)) in
    let dropped = length-drop at text in
    let enough : len ≤ length (drop at text) = omega (arith, dropped, within) in
    let taken = length-take-le len (drop at text) enough in
    let left = length-drop len (drop at text) in
    let section = length-append (flat_map print_field f.fields) (print_end f.last) in
    let some = ends f.last in
    omega (arith, whole, parts, halves, dropped, taken, left, section, some, within)

-- one more behind those that were found
pub one_more : (text : List ℕ) (bodies : List (List ℕ)) (rest body behind : List ℕ) → AreFrames text bodies rest → IsFrame rest body behind →
    AreFrames text (bodies ++ body ∷ []) behind
one_more text [] rest body behind same f = (behind, subst (λ xs. IsFrame xs body behind) (sym same) f, refl)
one_more text (first ∷ bodies) rest body behind all f = (all.0, all.1, one_more all.0 bodies rest body behind all.2 f)
