-- What a search in an index of line feeds finds.
use Rattle.std.proofs.Common.{◌≡◌, ◌∙◌, ℕ, ◌-◌, ◌<◌, ◌≤◌, List, length, take, get_or, true, false, ltb, arith, inl, inr}
use Rattle.std.specs.List.{count_by}
use Rattle.std.specs.List.Sorted.{IsPartitionPoint, IsPartitionedBy}
use Rattle.std.proofs.lemmas.Bool.{cases_lt, lt-ltb, ltb-true, ltb-false}
use Rattle.nx_text.specs.Feeds.{feeds_of, feeds_to_end}
use Rattle.nx_text.specs.Places.{is_line_feed}
use Rattle.nx_text.proofs.Feeds.{feeds_before, counted, feed_below, feed_above, fewer_before}
use Rattle.nx_text.proofs.Indices.{same_number, same_feed, feed_inside}

module _ (text : List ℕ) (at : ℕ) where
  pub parted_below : IsPartitionedBy (λ feed. ltb feed at) (feeds_of text)
  parted_below i j d le lt is =
      let less : get_or (feeds_of text) j d < at = ltb-true (get_or (feeds_of text) j d) at is in
      let early : j < feeds_before text at = elim (cases_lt j (feeds_before text at)) [
        | inl low ↦ low
        | inr past ↦ (let more = feed_above 0 at text d j past lt in absurd (omega arith))
      ] in
      let low = feed_below 0 at text d i (omega arith) in
      lt-ltb (get_or (feeds_of text) i d) at (omega arith)

  pub point_below : (r : ℕ) → r ≤ length (feeds_of text)
      → IsPartitionPoint (λ feed. ltb feed at ≡ true) (λ feed. ltb feed at ≡ false) (feeds_of text) r → r ≡ count_by is_line_feed (take at text)
  point_below r short h =
      let fewer : feeds_before text at ≤ length (feeds_of text) = fewer_before 0 at text in
      let same : r ≡ feeds_before text at = elim (cases_lt r (feeds_before text at)) [
        | inl low ↦ (
            let least = feed_below 0 at text 0 r low in
            let most = ltb-false (get_or (feeds_of text) r 0) at (h.1 r 0 (omega arith) (omega arith)) in
            absurd (omega arith))
        | inr past ↦ elim (cases_lt (feeds_before text at) r) [
          | inl high ↦ (
              let least = feed_above 0 at text 0 (feeds_before text at) (omega arith) (omega arith) in
              let most = ltb-true (get_or (feeds_of text) (feeds_before text at) 0) at (h.0 (feeds_before text at) 0 (omega arith) high) in
              absurd (omega arith))
          | inr equal ↦ omega arith
        ]
      ] in
      same ∙ counted (take at text)

  module _ (left : ℕ) (inside : at ≤ length text) (is_left : left ≡ length text - at) where
    pub parted_beyond : IsPartitionedBy (λ feed. ltb left feed) (feeds_to_end text)
    parted_beyond i j d le lt is =
        let number : length (feeds_to_end text) ≡ length (feeds_of text) = same_number text in
        let far : left < get_or (feeds_to_end text) j d = ltb-true left (get_or (feeds_to_end text) j d) is in
        let there : get_or (feeds_to_end text) j d ≡ length text - get_or (feeds_of text) j 0 = same_feed text j d (omega arith) in
        let early : j < feeds_before text at = elim (cases_lt j (feeds_before text at)) [
          | inl low ↦ low
          | inr past ↦ (let more = feed_above 0 at text 0 j past (omega arith) in absurd (omega arith))
        ] in
        let low = feed_below 0 at text 0 i (omega arith) in
        let here : get_or (feeds_to_end text) i d ≡ length text - get_or (feeds_of text) i 0 = same_feed text i d (omega arith) in
        lt-ltb left (get_or (feeds_to_end text) i d) (omega arith)

    pub point_beyond : (r : ℕ) → r ≤ length (feeds_to_end text)
        → IsPartitionPoint (λ feed. ltb left feed ≡ true) (λ feed. ltb left feed ≡ false) (feeds_to_end text) r
        → r ≡ count_by is_line_feed (take at text)
    point_beyond r short h =
        let number : length (feeds_to_end text) ≡ length (feeds_of text) = same_number text in
        let fewer : feeds_before text at ≤ length (feeds_of text) = fewer_before 0 at text in
        let same : r ≡ feeds_before text at = elim (cases_lt r (feeds_before text at)) [
          | inl low ↦ (
              let least = feed_below 0 at text 0 r low in
              let here : get_or (feeds_to_end text) r 0 ≡ length text - get_or (feeds_of text) r 0 = same_feed text r 0 (omega arith) in
              let most = ltb-false left (get_or (feeds_to_end text) r 0) (h.1 r 0 (omega arith) (omega arith)) in
              absurd (omega arith))
          | inr past ↦ elim (cases_lt (feeds_before text at) r) [
            | inl high ↦ (
                let k = feeds_before text at in
                let least = feed_above 0 at text 0 k (omega arith) (omega arith) in
                let last = feed_inside text k (omega arith) in
                let here : get_or (feeds_to_end text) k 0 ≡ length text - get_or (feeds_of text) k 0 = same_feed text k 0 (omega arith) in
                let most = ltb-true left (get_or (feeds_to_end text) k 0) (h.0 k 0 (omega arith) high) in
                absurd (omega arith))
            | inr equal ↦ omega arith
          ]
        ] in
        same ∙ counted (take at text)
