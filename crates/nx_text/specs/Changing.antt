-- Changes of a text, one after another.
use Rattle.std.specs.Prelude.{ℕ, ◌≤◌, List, [], ◌∷◌}
use Rattle.std.specs.List.{flat_map}
use Rattle.std.specs.Str.{IsUtf8}
use Rattle.nx_base.specs.Text.{edited}
use Rattle.nx_text.specs.Editing.{IsRange}
use Rattle.nx_base.specs.declared.change.Change.{Change}

-- the text behind all of them
abbrev pub changed : List ℕ → List Change → List ℕ
changed text [] = text
changed text (change ∷ others) = changed (edited text change.from change.to change.text) others

-- the next of them, if there is one, lies in front of a place
abbrev pub LieInFront : ℕ → List Change → Type 0
LieInFront at [] = Unit {0}
LieInFront at (change ∷ others) = change.to ≤ at

-- the ends of each are places of the text, its text is UTF-8, and it lies in front of the one before it
abbrev pub AreChanges : List ℕ → List Change → Type 0
AreChanges text [] = Unit {0}
AreChanges text (change ∷ others) = IsRange text change.from change.to × IsUtf8 change.text × LieInFront change.from others × AreChanges text others

-- what they put in
abbrev pub texts_of : List Change → List ℕ
texts_of changes = flat_map (λ (change : Change). change.text) changes
