-- What the program answers on its way, of the tokens of a text and of its nodes. No public contract rests on it.
use Rattle.std.specs.Prelude.{◌≡◌, ℕ, List, [], Result, Ok, Err, map, Contains}
use Rattle.nx_base.specs.declared.token.Token.{Token}
use Rattle.rnc_parse.specs.declared.surface.Surface.{Surface}
use Rattle.rnc_parse.specs.Views.{surface_of}
use Rattle.rngx_read.specs.declared.read.XReadFault.{XReadFault}
use Rattle.rngx_read.specs.declared.read.XReadFault.TheVariants as fault
use Rattle.rngx_read.specs.declared.stop.Stop.{Stop}
use Rattle.rngx_read.specs.declared.stop.Stop.TheVariants as stop
use Rattle.rngx_read.specs.Elements.{Nodes, elements_in}
use Rattle.rngx_read.specs.Names.{bound_in}
use Rattle.rngx_read.specs.Reads.{IsFile, HaveNoForm, LeavesOut, BeginsToken}

-- the place is that of one of these tokens
abbrev pub BeginsOne : List Token → ℕ → Type 0
BeginsOne tokens at = Contains (map (λ (token : Token). token.from) tokens) at

-- what is answered where reading stops
abbrev pub RefusesAt : List Token → Stop → XReadFault → Type 0
RefusesAt tokens (stop.Form before) (fault.BadForm at) = BeginsOne tokens at
RefusesAt tokens (stop.Prefix prefix) (fault.UndeclaredPrefix found) = found ≡ prefix
RefusesAt tokens stop.NoMemory fault.NoMemory = Unit {0}
RefusesAt tokens _ _ = ⊥

-- what is answered of a text that is read as these nodes
abbrev pub AnswersNodes : List ℕ → Nodes → Result Surface XReadFault → Type 0
AnswersNodes text nodes (Ok surface) = IsFile bound_in (elements_in [] nodes) (surface_of surface)
AnswersNodes text nodes (Err (fault.BadForm at)) = HaveNoForm (elements_in [] nodes) × BeginsToken text at
AnswersNodes text nodes (Err (fault.UndeclaredPrefix prefix)) = LeavesOut bound_in prefix (elements_in [] nodes)
AnswersNodes text nodes (Err fault.NoMemory) = Unit {0}
AnswersNodes text nodes (Err _) = ⊥
