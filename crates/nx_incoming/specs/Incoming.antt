-- What is still to come of an input: what was taken from it and isn't used yet, and what it has left, where it tells that.
use Rattle.std.specs.Prelude.{◌≡◌, ℕ, List, ◌++◌, length, Option}
use Rattle.std.specs.Io.KnownBytes.{prepend_known}
use Rattle.std.specs.Io.Buffered.{reader_remaining}
use Rattle.nx_incoming.specs.declared.incoming.Incoming.{Incoming}

abbrev pub coming : {R : Type 0} → (R → Option (List ℕ)) → Incoming R → Option (List ℕ)
coming {R} remaining input = prepend_known input.pending.items (reader_remaining remaining input.reader)

-- so many bytes came behind those that were there
abbrev pub Takes : List ℕ → ℕ → List ℕ → Type 0
Takes old count new = (bytes : List ℕ) × (new ≡ old ++ bytes) × (length bytes ≡ count)
