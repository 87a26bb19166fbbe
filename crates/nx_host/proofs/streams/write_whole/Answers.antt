use Rattle.std.proofs.Common.{◌≡◌, ◌-◌, ◌++◌, List, ℕ, length, take, drop, sym, ap, ◌∙◌, append_assoc, take-append-drop}
use Rattle.std.proofs.lemmas.List.{take_rest}
use Rattle.std.proofs.KnownBytes.{Appends-trans, Appends-kept}
use Rattle.nx_host.proofs.streams.write_whole.Goals as goal
use Rattle.nx_host.proofs.streams.write_whole.Goals.{in-Ok, in-Err+else-ne}

-- the bytes that a write took come to those that were done
moved : (all done rest next : List ℕ) (n : ℕ) → all ≡ done ++ rest → next ≡ take (length rest - n) (drop n rest) → all ≡ (done ++ take n rest) ++ next
moved all done rest next n split is =
    split
    ∙ ap (λ l. done ++ l) (sym (take-append-drop n rest))
    ∙ sym (append_assoc done (take n rest) (drop n rest))
    ∙ ap (λ l. (done ++ take n rest) ++ l) (sym (is ∙ take_rest rest n))

pub loop-preserved : goal.loop-preserved
loop-preserved g c =
    let (done, split, appended) = c.loop.invariant in
    let rest = c.loop.rest.now in
    elim c.match-write.branch [
      | in-Ok w ↦
          let n = w.in-Ok.count in
          (done ++ take n rest, moved _ done rest _ n split (ap (λ r. r.now) w.rest-is), Appends-trans _ _ _ _ _ appended w.in-Ok.ensures.bytes)
      | in-Err+else-ne w ↦
          (done, split ∙ ap (λ r. done ++ r.now) (sym w.rest-is), Appends-kept _ _ _ _ appended w.in-Err.ensures.bytes)
    ]
