-- What is left behind a token of which one look tells what it gives, where the schema admits all of that.
use Rattle.std.specs.Prelude.{◌≡◌, ℕ, List, [], ◌∷◌, Option, Some, None}
use Rattle.nx_base.specs.declared.name.Name.{Name}
use Rattle.nx_base.specs.declared.token.Token.{Token}
use Rattle.nx_events.specs.Items.{items_of_token, state_behind}
use Rattle.nx_events.specs.PlainAttributes.{attribute_name, listed}
use Rattle.nx_events.specs.declared.plain_opening.PlainAttribute.{PlainAttribute}
use Rattle.nx_events.specs.declared.plain_opening.PlainAttributes.{PlainAttributes}
use Rattle.rng_core.specs.Patterns.{Language}
use Rattle.rng_kept.specs.Content.{chars, leave}
use Rattle.rng_kept.specs.Entering.{enter}
use Rattle.rng_kept.specs.Merging.{answered}
use Rattle.rng_kept.specs.Residuals.{Residual}
use Rattle.rng_kept.specs.Tags.{attribute_of, tag_end}
use Rattle.nx_recover.specs.Items.{form_along, found_along}
use Rattle.nx_recover.specs.States.{AreStates, form, view_of}
use Rattle.nx_recover.specs.declared.state.RecoverState.{RecoverState}

abbrev pub then_answered : Option Residual → (Residual → Option Residual) → Option Residual
then_answered None f = None
then_answered (Some x) f = f x

-- a run, if there is one, and then what follows it
abbrev pub behind_run : Option (List ℕ) → (Residual → Option Residual) → Residual → Option Residual
behind_run None f x = f x
behind_run (Some text) f x = then_answered (answered (chars text x)) f

-- attributes, and the end of their tag
abbrev pub behind_attributes : List PlainAttribute → Residual → Option Residual
behind_attributes [] x = answered (tag_end x)
behind_attributes (it ∷ others) x = then_answered (answered (attribute_of (attribute_name it) it.value.now x)) (behind_attributes others)

-- those of a tag that has some
abbrev pub listed_if : Option PlainAttributes → List PlainAttribute
listed_if None = []
listed_if (Some attributes) = listed attributes

-- the start of an element with these attributes, and the end of its tag
abbrev pub inside_of : Language → Name → List PlainAttribute → Residual → Option Residual
inside_of g n its x = then_answered (answered (enter g.definitions n x)) (behind_attributes its)

-- the end of an element
abbrev pub outside_of : Residual → Option Residual
outside_of x = answered (leave x)

-- The schema admits all that the token gives, so it is no fault, and t is the state behind it, read on from s. What the states of the
-- matcher mean is asked of it before the token (f) and behind it (h): they are states (P), the events' part is that behind the token, the
-- levels are those to which recovery's table leads along the token's items, and it finds nothing wrong along these
pub record IsAdmitted {S : Type 0} (P : S → Type 0) (f h : S → Residual) (g : Language) (s t : RecoverState S) (token : Token) : Type 0 where
  pub states : AreStates P (view_of t.levels)
  pub events : t.events ≡ state_behind s.events token
  pub levels : form h (view_of t.levels) ≡ form_along g (form f (view_of s.levels)) (items_of_token s.events token)
  pub faultless : found_along g (form f (view_of s.levels)) (items_of_token s.events token) ≡ []
