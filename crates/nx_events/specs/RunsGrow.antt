-- A pending run reaches back farther by a token's length at most.
use Rattle.std.proofs.Common.{ℕ, ◌+◌, ◌≤◌, Bool, true, false, cond, Option, Some, None, List, length, arith}
use Rattle.nx_base.specs.declared.token.Token.{Token}
use Rattle.nx_base.specs.declared.token.TokenKind.{TokenKind}
use Rattle.nx_base.specs.declared.token.TokenKind.TheVariants as tokens
use Rattle.nx_events.specs.declared.state.Run.{Run}
use Rattle.nx_events.specs.declared.state.EventState.{EventState}
use Rattle.nx_events.specs.declared.reading.Reading.TheVariants.{Plain, Text}
use Rattle.nx_events.specs.Runs.{run_back, run_passed, run_joined}
use Rattle.nx_events.specs.Strings.{string_of, cdata_content}
use Rattle.nx_events.specs.Tags.{end_name}
use Rattle.nx_events.specs.Items.{is_inside, passed, joined, closed, around_innermost, state_by_kind, state_behind}

passed_back : (n : ℕ) (run : Option Run) → run_back (run_passed n run) ≤ run_back run + n
passed_back n None = omega arith
passed_back n (Some run) = omega arith

joined_back : (string : List ℕ) (n : ℕ) (run : Option Run) → run_back (run_joined string n run) ≤ run_back run + n
joined_back string n None = omega arith
joined_back string n (Some run) = omega arith

-- either of two states
joined_state_back : (state : EventState) (token : Token) (string : List ℕ)
    → run_back (joined state token string).run ≤ run_back state.run + length token.bytes
joined_state_back state token string = by_place (is_inside state)
  where
    by_place : (t : Bool)
        → run_back (cond t (record state { came = true; run = run_joined string (length token.bytes) state.run })
        (passed state token)).run ≤ run_back state.run + length token.bytes
    by_place true = joined_back string (length token.bytes) state.run
    by_place false = passed_back (length token.bytes) state.run

closed_back : (state : EventState) (token : Token) (n : Option ℕ)
    → run_back (closed state token n).run ≤ run_back state.run + length token.bytes
closed_back state token None = passed_back (length token.bytes) state.run
closed_back state token (Some n) = omega arith

back_by_kind : (kind : TokenKind) (state : EventState) (token : Token)
    → run_back (state_by_kind kind state token).run ≤ run_back state.run + length token.bytes
back_by_kind tokens.Start state token = omega arith
back_by_kind tokens.Empty state token = omega arith
back_by_kind tokens.End state token = closed_back state token (around_innermost (end_name token.bytes) state.elements)
back_by_kind tokens.Text state token = joined_state_back state token (string_of Text token.bytes)
back_by_kind tokens.Cdata state token = joined_state_back state token (string_of Plain (cdata_content token.bytes))
back_by_kind _ state token = passed_back (length token.bytes) state.run

-- the pending run reaches back by the token's length at most farther than before
pub back_grows : (state : EventState) (token : Token) → run_back (state_behind state token).run ≤ run_back state.run + length token.bytes
unfolding state_behind
back_grows state token = back_by_kind token.kind state token
