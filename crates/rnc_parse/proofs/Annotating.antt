-- The loops over annotations.
use Rattle.std.proofs.Common.{◌≡◌, ℕ, ◌<◌, true, false, eqb, List, [], ◌∷◌, length, reverse, Some, None, Err, refl, sym, ap, ◌∙◌, arith}
use Rattle.std.proofs.lemmas.Bool.{eqb-true, eq-eqb, false≢true}
use Rattle.std.proofs.lemmas.List.{length-reverse}
use Rattle.rnc_lex.specs.declared.token.Lexeme.{Lexeme}
use Rattle.rnc_lex.specs.declared.token.Symbol.{Symbol}
use Rattle.rnc_lex.specs.declared.token.Symbol.TheVariants.{Follows}
use Rattle.rnc_parse.specs.declared.stop.Stop.{Stop}
use Rattle.rnc_parse.specs.declared.stop.Stop.TheVariants as stop
use Rattle.rnc_parse.specs.Reading.{Reading, read, no_reading, Finds, first, behind, stands}
use Rattle.rnc_parse.specs.ReadingAnnotations.{bracket_of, behind_bracket, LeavesClosers, closed_at, follower_at, follow_at}
use Rattle.rnc_parse.proofs.Loops.{loop_more, loop_ends}
use Rattle.rnc_parse.proofs.Shortening.{follower_shortens}
use Rattle.rnc_parse.proofs.Finding.{Halts, loop_fails}

pub closed_over : (closers : List Symbol) (tokens : List Lexeme) → None ≡ first tokens → closed_at closers tokens ≡ no_reading
unfolding closed_at first
closed_over closers [] e = refl
closed_over closers (token ∷ tokens) e = absurd cc

-- behind one token
pub closed_step : (closers : List Symbol) (tokens : List Lexeme) (token : Lexeme) → Some token ≡ first tokens →
    closed_at closers tokens ≡ elim (behind_bracket (bracket_of token) closers) [ None ↦ no_reading | Some [] ↦ read (tt {0}) (behind tokens) | Some (n ∷ l) ↦ closed_at (n ∷ l) (behind tokens) ]
unfolding closed_at first behind
closed_step closers [] token e = absurd cc
closed_step closers (x ∷ tokens) token e =
    let same : x ≡ token = cc in
    ap (λ (t : Lexeme). elim (behind_bracket (bracket_of t) closers) [ None ↦ no_reading | Some [] ↦ read (tt {0}) tokens | Some (n ∷ l) ↦ closed_at (n ∷ l) tokens ]) same

pub closed_more : (closers later : List Symbol) (tokens : List Lexeme) (token : Lexeme) (n : ℕ) → Some token ≡ first tokens →
    behind_bracket (bracket_of token) (reverse closers) ≡ Some (reverse later) → n ≡ length later → false ≡ eqb n 0 →
    closed_at (reverse closers) tokens ≡ closed_at (reverse later) (behind tokens)
closed_more closers later tokens token n e b long some = more (reverse later) b (λ (none : length (reverse later) ≡ 0). let short = length-reverse later in let zero_long : n ≡ 0 = omega arith in absurd (false≢true (some ∙ eq-eqb n 0 zero_long)))
  where
    more : (all : List Symbol) → behind_bracket (bracket_of token) (reverse closers) ≡ Some all → (length all ≡ 0 → ⊥) →
        closed_at (reverse closers) tokens ≡ closed_at all (behind tokens)
    more [] h none = absurd (none refl)
    more (x ∷ l) h none = closed_step (reverse closers) tokens token e ∙ rw h refl

pub closed_end : (closers later : List Symbol) (tokens : List Lexeme) (token : Lexeme) (n : ℕ) → Some token ≡ first tokens →
    behind_bracket (bracket_of token) (reverse closers) ≡ Some (reverse later) → n ≡ length later → true ≡ eqb n 0 →
    closed_at (reverse closers) tokens ≡ read tt (behind tokens)
closed_end closers later tokens token n e b long none =
    end (reverse later) b (let short = length-reverse later in let zero_long : n ≡ 0 = eqb-true n 0 (sym none) in omega arith)
  where
    end : (all : List Symbol) → behind_bracket (bracket_of token) (reverse closers) ≡ Some all → length all ≡ 0 →
        closed_at (reverse closers) tokens ≡ read tt (behind tokens)
    end [] h none = closed_step (reverse closers) tokens token e ∙ rw h refl
    end (x ∷ l) h none = absurd (omega arith)

-- a token that is refused, or memory that runs out
pub closed_stops : (closers later : List Symbol) (tokens left : List Lexeme) (token : Lexeme) (total : Reading (Unit {0})) (e : Stop) → Some token ≡ first tokens → closed_at closers tokens ≡ total → LeavesClosers later (Err e) (behind_bracket (bracket_of token) closers) → Finds {A = Unit {0}} (λ _. tt {0}) left (Err e) total
closed_stops closers later tokens left token total stop.Syntax e all h = sym all ∙ closed_step closers tokens token e ∙ rw h refl
closed_stops closers later tokens left token total (stop.NamePrefix prefix) e all h = absurd h
closed_stops closers later tokens left token total (stop.TypePrefix prefix) e all h = absurd h
closed_stops closers later tokens left token total stop.NoMemory e all h = tt

-- ---- what follows

pub follow_more : (tokens rest : List Lexeme) → stands Follows tokens ≡ true → follower_at tokens ≡ read tt rest →
    follow_at tokens ≡ follow_at rest
unfolding follow_at
follow_more tokens rest goes e = loop_more (stands Follows) follower_at (λ _ _. tt) follower_shortens tt tokens rest tt goes e

pub follow_ends : (tokens : List Lexeme) → stands Follows tokens ≡ false → follow_at tokens ≡ read tt tokens
unfolding follow_at
follow_ends tokens stops = loop_ends (stands Follows) follower_at (λ _ _. tt) tt tokens stops

pub follow_stops : (tokens : List Lexeme) (total : Reading (Unit {0})) (e : Stop) → stands Follows tokens ≡ true →
    follow_at tokens ≡ total → Halts e (follower_at tokens) → Halts e total
unfolding follow_at
follow_stops tokens total e goes all h = loop_fails (stands Follows) follower_at (λ _ _. tt) tt tokens total e follower_shortens goes all h

-- ---- tokens

pub behind_shorter : (tokens : List Lexeme) (token : Lexeme) → Some token ≡ first tokens → length (behind tokens) < length tokens
unfolding first behind
behind_shorter [] token e = absurd cc
behind_shorter (x ∷ tokens) token e = omega arith
