-- The whole text is replaced.
use Rattle.std.proofs.Common.{◌≡◌, ℕ, List, [], ◌∷◌, ◌++◌, length, drop, refl, ap, ◌∙◌}
use Rattle.std.proofs.lemmas.List.{append-nil}
use Rattle.nx_base.specs.Text.{edited}

drop_all : (bytes : List ℕ) → drop (length bytes) bytes ≡ []
drop_all [] = refl
drop_all (b ∷ bytes) = drop_all bytes

pub edited_whole : (text added : List ℕ) (len : ℕ) → len ≡ length text → edited text 0 len added ≡ added
edited_whole text added len long = ap (λ n. added ++ drop n text) long ∙ ap (λ rest. added ++ rest) (drop_all text) ∙ append-nil added
