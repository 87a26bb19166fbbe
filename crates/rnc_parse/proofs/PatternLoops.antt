-- The loops over particles and items.
use Rattle.std.proofs.Common.{◌≡◌, ℕ, ◌<◌, true, false, List, [], ◌∷◌, ◌++◌, length, map, sym, ap, ◌∙◌, arith, length-append}
use Rattle.std.proofs.lemmas.List.{map-append, length-map}
use Rattle.rnc_lex.specs.declared.token.Lexeme.{Lexeme}
use Rattle.rnc_parse.specs.declared.stop.Stop.{Stop}
use Rattle.rnc_parse.specs.declared.sign.Sign.{Sign}
use Rattle.rnc_parse.specs.declared.surface.Pattern.{Pattern}
use Rattle.rnc_parse.specs.Scopes.{Scope}
use Rattle.rnc_parse.specs.Views.{pattern_of}
use Rattle.rnc_parse.specs.Written.{WrittenPattern, WrittenItems, WrittenReplacements, joined_or}
use Rattle.rnc_parse.specs.Reading.{Reading, read, behind, stands, loop_at}
use Rattle.rnc_parse.specs.ReadingParts.{goes_on}
use Rattle.rnc_parse.specs.ReadingPatterns.{joins, none_of, joined_all, sign_symbol, add_item, add_replacement, inside_at, particle_at, item_at, replacement_at}
use Rattle.rnc_parse.proofs.ClassViews.{joined_or_push}
use Rattle.rnc_parse.proofs.Finding.{Halts, loop_fails, loop_next, loop_over}
use Rattle.rnc_parse.proofs.Shortening.{particle_shortens}

all_push : (sign : Sign) (old new : List Pattern) (one : Pattern) → 0 < length old → new ≡ old ++ one ∷ [] →
    joins sign (joined_all sign old) (pattern_of one) ≡ joined_all sign new
all_push sign old new one some e =
    let long : 0 < length (map pattern_of old) = simp length-map some in
    sym (ap (joined_all sign) e ∙ ap (joined_or (joins sign) (none_of sign)) (map-append pattern_of old (one ∷ [])) ∙ joined_or_push (joins sign) (none_of sign) (map pattern_of old) (pattern_of one) long)

module _ (scope : Scope) (left : ℕ) where
  module _ (sign : Sign) where
    abbrev particle : List Lexeme → Reading WrittenPattern
    particle tokens = particle_at scope left (inside_at scope left) tokens

    abbrev pub particles_loop : WrittenPattern → List Lexeme → Reading WrittenPattern
    particles_loop before tokens =
        loop_at (stands (sign_symbol sign)) (λ more. particle_at scope left (inside_at scope left) (behind more)) (joins sign) before tokens

    -- what the loop over particles keeps
    pub record Keeps (particles : List Pattern) (tokens : List Lexeme) (total : Reading WrittenPattern) : Type 0 where
      pub some : 0 < length particles
      pub same : particles_loop (joined_all sign particles) tokens ≡ total

    pub begun : (particles : List Pattern) (first : Pattern) (tokens : List Lexeme) → particles ≡ first ∷ [] →
        Keeps particles tokens (particles_loop (pattern_of first) tokens)
    begun particles first tokens e =
        record { some = omega (arith, ap length e); same = ap (λ (l : List Pattern). particles_loop (joined_all sign l) tokens) e }

    pub went_on : (old new : List Pattern) (one : Pattern) (tokens rest : List Lexeme) (total : Reading WrittenPattern) →
        stands (sign_symbol sign) tokens ≡ true → particle (behind tokens) ≡ read (pattern_of one) rest → new ≡ old ++ one ∷ [] →
        Keeps old tokens total → Keeps new rest total
    went_on old new one tokens rest total goes e pushed keeps = record {
      some = omega (arith, ap length pushed, length-append old (one ∷ []));
      same = loop_next (stands (sign_symbol sign)) (λ more. particle_at scope left (inside_at scope left) (behind more)) (joins sign) (joined_all sign old) (joined_all sign new) (pattern_of one) tokens rest total (particle_shortens scope left sign) goes e (all_push sign old new one keeps.some pushed) keeps.same;
    }

    pub fails : (particles : List Pattern) (tokens : List Lexeme) (total : Reading WrittenPattern) (e : Stop) →
        stands (sign_symbol sign) tokens ≡ true → Keeps particles tokens total → Halts e (particle (behind tokens)) → Halts e total
    fails particles tokens total e goes keeps h = loop_fails (stands (sign_symbol sign)) (λ more. particle_at scope left (inside_at scope left) (behind more)) (joins sign) (joined_all sign particles) tokens total e (particle_shortens scope left sign) goes keeps.same h

    pub over : (particles : List Pattern) (tokens : List Lexeme) (total : Reading WrittenPattern) →
        stands (sign_symbol sign) tokens ≡ false → Keeps particles tokens total → total ≡ read (joined_all sign particles) tokens
    over particles tokens total stops keeps = loop_over (stands (sign_symbol sign)) (λ more. particle_at scope left (inside_at scope left) (behind more)) (joins sign) (joined_all sign particles) tokens total stops keeps.same

  abbrev pub items_loop : WrittenItems → List Lexeme → Reading WrittenItems
  items_loop before tokens = loop_at goes_on (item_at scope left (inside_at scope left)) add_item before tokens

  abbrev pub replacements_loop : WrittenReplacements → List Lexeme → Reading WrittenReplacements
  replacements_loop before tokens = loop_at goes_on (replacement_at scope left (inside_at scope left)) add_replacement before tokens
