-- Where marks are saved.
use Rattle.std.specs.Prelude.{◌≡◌, ℕ, ◌+◌, ◌<◌, Bool, false, ◌&&◌, nat_le, max, List, [], ◌∷◌, length}
use Rattle.nx_base.specs.Rules.{Rules, Lexeme}
use Rattle.nx_marks.specs.Tags.{tag_of}

-- a mark is saved behind a token, where so many tags lie since the last mark
abbrev pub is_due : {M : Type 0} → Rules M → M → ℕ → Bool
is_due r m tags = r.may_mark m && nat_le (max (r.depth m) 16) tags

-- behind a mark whose state means m and so many tags, none was due between these tokens
abbrev pub Sparse : {M : Type 0} → Rules M → M → ℕ → List Lexeme → Type 0
Sparse r m tags [] = Unit {0}
Sparse r m tags (k ∷ ks) = (0 < length ks → is_due r (r.after m k) (tags + tag_of k.kind) ≡ false)
    × Sparse r (r.after m k) (tags + tag_of k.kind) ks
