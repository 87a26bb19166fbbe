-- Changes of a text, as messages tell them.
use Rattle.std.specs.Prelude.{ℕ, List, [], ◌∷◌, codes, Option, Some, None, option_map}
use Rattle.nx_position.specs.declared.change.Change.{Change}
use Rattle.nx_position.specs.declared.change.Range.{Range}
use Rattle.serde_json.specs.Data.{Data, Items, no_items, item}
use Rattle.serde_json.specs.Find.{get}
use Rattle.nx_wire.specs.Places.{range_in}
use Rattle.nx_wire.specs.Values.{text_at}

-- the part that a change speaks of: none where it speaks of the whole text; none at all where that can't be read
abbrev pub part_in : Option Data → Option (Option Range)
part_in None = Some None
part_in (Some range) = option_map (λ part. Some part) (range_in range)

abbrev pub change_of : Option (List ℕ) → Option (Option Range) → Option Change
change_of (Some text) (Some part) = Some (record { part = part; text = text })
change_of (Some text) None = None
change_of None part = None

-- a `TextDocumentContentChangeEvent`: `{"range": RANGE, "text": TEXT}`, or `{"text": TEXT}` for the whole text
abbrev pub change_in : Data → Option Change
change_in value = change_of (text_at (codes "text") value) (part_in (get (codes "range") value))

abbrev pub changes_of : Option Change → Option (List Change) → Option (List Change)
changes_of (Some change) (Some rest) = Some (change ∷ rest)
changes_of (Some change) None = None
changes_of None rest = None

-- such changes, where each of them can be read
abbrev pub changes_in : Items → Option (List Change)
changes_in no_items = Some []
changes_in (item value rest) = changes_of (change_in value) (changes_in rest)
