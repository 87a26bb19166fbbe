-- What the changes of a command give: the tokens of the text behind them, and the items of the tags that were put in or renamed.
use Rattle.std.specs.Prelude.{◌≡◌, ℕ, ◌+◌, false, true, List, [], ◌∷◌, ◌++◌, length, map, None, Option, Some}
use Rattle.std.specs.Str.{IsUtf8}
use Rattle.nx_base.specs.Text.{IsPlace, edited}
use Rattle.nx_base.specs.Tokens.{tokens_of}
use Rattle.nx_base.specs.declared.change.Change.{Change}
use Rattle.nx_base.specs.declared.token.Token.{Token}
use Rattle.nx_base.specs.declared.token.TokenKind.TheVariants as kinds
use Rattle.nx_events.specs.Elements.{element_resolved, element_items}
use Rattle.nx_events.specs.Items.{token_span, items_of_token, state_behind}
use Rattle.nx_events.specs.Moves.{placed_token}
use Rattle.nx_events.specs.Runs.{run_items}
use Rattle.nx_events.specs.SpelledTags.{IsName}
use Rattle.nx_events.specs.declared.item.Event.TheVariants.{TagEnd, Leave}
use Rattle.nx_events.specs.declared.item.Item.TheVariants as items
use Rattle.nx_events.specs.declared.state.EventState.{EventState}
use Rattle.nx_tags.specs.declared.command.TagCommand.{TagCommand}
use Rattle.nx_tags.specs.declared.command.TagCommand.TheVariants.{Finish, Split, Pair, Rename}
use Rattle.nx_tags.specs.Answers.{innermost_name_at}
use Rattle.nx_tags.specs.Changing.{start_tag, end_tag}
use Rattle.nx_text.specs.Changing.{changed}
use Rattle.nx_tags.specs.Elements.{MayBeSplit}
use Rattle.nx_tags.specs.Free.{IsFree}
use Rattle.nx_tags.specs.Parts.{in_front, beyond, state_at}
use Rattle.nx_tags.specs.Renamed.{IsRenamed}

abbrev pub start_token : ℕ → List ℕ → Token
start_token at name = record { kind = kinds.Start; from = at; bytes = start_tag name }

abbrev pub end_token : ℕ → List ℕ → Token
end_token at name = record { kind = kinds.End; from = at; bytes = end_tag name }

-- the old tokens stay, the one that the place cuts as two, and between those in front of the place and those behind it stand new ones of so
-- many bytes
abbrev pub PutsIn : List ℕ → ℕ → List Token → ℕ → List ℕ → Type 0
PutsIn text at tags len after = tokens_of after ≡ in_front text at ++ (tags ++ map (placed_token len) (beyond text at))

-- the same state behind tags, without its run
abbrev pub run_ended : EventState → EventState
run_ended state = record state { came = true; started = true; run = None }

-- the end tag of the innermost open element ends the run and the element, and nothing else
pub record IsFinished (text : List ℕ) (at : ℕ) (after : List ℕ) : Type 0 where
  pub tokens : PutsIn text at (end_token at (innermost_name_at text at) ∷ []) (length (end_tag (innermost_name_at text at))) after
  pub items : items_of_token (state_at text at) (end_token at (innermost_name_at text at))
      ≡ run_items at (state_at text at).run ++ items.Event Leave (token_span (end_token at (innermost_name_at text at))) ∷ []

-- a start tag and an end tag make an element without content, whose name is that of the scope in force
pub record IsPaired (text : List ℕ) (at : ℕ) (name after : List ℕ) : Type 0 where
  pub tokens : PutsIn text at (start_token at name ∷ end_token (at + length (start_tag name)) name ∷ []) (length (start_tag name ++ end_tag name)) after
  pub start : items_of_token (state_at text at) (start_token at name)
      ≡ run_items at (state_at text at).run
      ++ element_items (token_span (start_token at name)) (element_resolved false (state_at text at).scope name)
      ++ items.Event TagEnd (token_span (start_token at name)) ∷ []
  pub end : items_of_token (state_behind (state_at text at) (start_token at name)) (end_token (at + length (start_tag name)) name)
      ≡ items.Event Leave (token_span (end_token (at + length (start_tag name)) name)) ∷ []
  pub state : state_behind (state_behind (state_at text at) (start_token at name)) (end_token (at + length (start_tag name)) name)
      ≡ run_ended (state_at text at)

-- the innermost open element ends, and another of its name begins. It declares nothing, so the scope inside of it is the one around it, and
-- the new start tag gives the name, or the fault of the name, that its own start tag gave.
pub record IsSplit (text : List ℕ) (at : ℕ) (after : List ℕ) : Type 0 where
  pub tokens : PutsIn text at
      (end_token at (innermost_name_at text at) ∷ start_token (at + length (end_tag (innermost_name_at text at))) (innermost_name_at text at) ∷ [])
      (length (end_tag (innermost_name_at text at) ++ start_tag (innermost_name_at text at))) after
  pub end : items_of_token (state_at text at) (end_token at (innermost_name_at text at))
      ≡ run_items at (state_at text at).run ++ items.Event Leave (token_span (end_token at (innermost_name_at text at))) ∷ []
  pub start : items_of_token (state_behind (state_at text at) (end_token at (innermost_name_at text at)))
      (start_token (at + length (end_tag (innermost_name_at text at))) (innermost_name_at text at))
      ≡ element_items (token_span (start_token (at + length (end_tag (innermost_name_at text at))) (innermost_name_at text at)))
      (element_resolved false (state_at text at).scope (innermost_name_at text at))
      ++ items.Event TagEnd (token_span (start_token (at + length (end_tag (innermost_name_at text at))) (innermost_name_at text at))) ∷ []
  pub state : state_behind (state_behind (state_at text at) (end_token at (innermost_name_at text at)))
      (start_token (at + length (end_tag (innermost_name_at text at))) (innermost_name_at text at)) ≡ run_ended (state_at text at)

-- what the changes of a command give that is carried out
abbrev pub Gives : List ℕ → TagCommand → List Change → Type 0
Gives text (Finish at) changes = IsFinished text at (changed text changes)
Gives text (Split at) changes = IsSplit text at (changed text changes)
Gives text (Pair at name) changes = IsPaired text at name (changed text changes)
Gives text (Rename at name) changes = IsRenamed text at name changes

abbrev pub GivesItsItems : List ℕ → TagCommand → Option (List Change) → Type 0
GivesItsItems text command None = Unit {0}
GivesItsItems text command (Some changes) = Gives text command changes

-- laws: where a place is free, the end tag of the innermost open element finishes it, and the tags of any Name make an element
abbrev pub FinishingGives : Type 0
FinishingGives = (text : List ℕ) (at : ℕ) → IsUtf8 text → IsPlace text at → IsFree text at →
    IsFinished text at (edited text at at (end_tag (innermost_name_at text at)))

abbrev pub PairingGives : Type 0
PairingGives = (text name : List ℕ) (at : ℕ) → IsUtf8 text → IsPlace text at → IsName name → IsFree text at →
    IsPaired text at name (edited text at at (start_tag name ++ end_tag name))

abbrev pub SplittingGives : Type 0
SplittingGives = (text : List ℕ) (at : ℕ) → IsUtf8 text → IsPlace text at → MayBeSplit text at →
    IsSplit text at (edited text at at (end_tag (innermost_name_at text at) ++ start_tag (innermost_name_at text at)))
