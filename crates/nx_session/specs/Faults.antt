-- What a text gives is text.
use Rattle.std.specs.Prelude.{ℕ, List}
use Rattle.std.specs.Str.{IsUtf8}
use Rattle.nx_events.specs.Items.{items_of_text}
use Rattle.nx_events.specs.Texts.{ItemsAreText}

-- names, strings and details that a text gives are text
abbrev pub TextsGiveText : Type 0
TextsGiveText = (text : List ℕ) → IsUtf8 text → ItemsAreText (items_of_text text)
