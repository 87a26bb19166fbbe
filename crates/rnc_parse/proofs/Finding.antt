-- What a call finds, where a step of it finds something or doesn't.
use Rattle.std.proofs.Common.{◌≡◌, Bool, true, false, List, sym, ◌∙◌, ap}
use Rattle.rnc_lex.specs.declared.token.Lexeme.{Lexeme}
use Rattle.rnc_parse.specs.declared.stop.Stop.{Stop}
use Rattle.rnc_parse.specs.declared.stop.Stop.TheVariants as stop
use Rattle.rnc_parse.specs.Scopes.{of_names, of_types}
use Rattle.rnc_parse.specs.Reading.{Reading, read, no_reading, no_prefix, ◌>>=◌, loop_at}
use Rattle.rnc_parse.proofs.Loops.{Shortens, loop_on, loop_more, loop_ends}

-- what a call finds that stops so
abbrev pub Halts : {B : Type 0} → Stop → Reading B → Type 0
Halts stop.Syntax found = found ≡ no_reading
Halts (stop.NamePrefix prefix) found = found ≡ no_prefix (of_names prefix)
Halts (stop.TypePrefix prefix) found = found ≡ no_prefix (of_types prefix)
Halts stop.NoMemory found = Unit {0}

-- a step that stops is where the call stops
pub failed : {B D : Type 0} (e : Stop) (found : Reading B) (more : B → List Lexeme → Reading D) → Halts e found → Halts e (found >>= more)
failed stop.Syntax found more h = ap (λ x. x >>= more) h
failed (stop.NamePrefix prefix) found more h = ap (λ x. x >>= more) h
failed (stop.TypePrefix prefix) found more h = ap (λ x. x >>= more) h
failed stop.NoMemory found more h = tt

halts_as : {B : Type 0} (e : Stop) (x y : Reading B) → x ≡ y → Halts e x → Halts e y
halts_as stop.Syntax x y same h = sym same ∙ h
halts_as (stop.NamePrefix prefix) x y same h = sym same ∙ h
halts_as (stop.TypePrefix prefix) x y same h = sym same ∙ h
halts_as stop.NoMemory x y same h = tt

module _ {B D : Type 0} (goes_on : List Lexeme → Bool) (step : List Lexeme → Reading B) (add : D → B → D) where
  -- so is a step of a loop
  pub loop_fails : (before : D) (tokens : List Lexeme) (total : Reading D) (e : Stop) → Shortens goes_on step → goes_on tokens ≡ true →
      loop_at goes_on step add before tokens ≡ total → Halts e (step tokens) → Halts e total
  loop_fails before tokens total e shortens goes all h =
      halts_as e _ total (sym (loop_on goes_on step add shortens before tokens goes) ∙ all)
      (failed e (step tokens) (λ value rest. loop_at goes_on step add (add before value) rest) h)

  -- a loop behind one more step
  pub loop_next : (before after : D) (value : B) (tokens rest : List Lexeme) (total : Reading D) → Shortens goes_on step →
      goes_on tokens ≡ true → step tokens ≡ read value rest → add before value ≡ after → loop_at goes_on step add before tokens ≡ total →
      loop_at goes_on step add after rest ≡ total
  loop_next before after value tokens rest total shortens goes e same all =
      ap (λ x. loop_at goes_on step add x rest) (sym same) ∙ sym (loop_more goes_on step add shortens before tokens rest value goes e) ∙ all

  -- a loop that is over
  pub loop_over : (before : D) (tokens : List Lexeme) (total : Reading D) → goes_on tokens ≡ false →
      loop_at goes_on step add before tokens ≡ total → total ≡ read before tokens
  loop_over before tokens total stops all = sym all ∙ loop_ends goes_on step add before tokens stops
