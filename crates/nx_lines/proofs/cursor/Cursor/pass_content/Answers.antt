use Rattle.std.proofs.Common.{◌≡◌, ◌∙◌, ◌+◌, ◌≤◌, ℕ, length, take, sym, ap, arith}
use Rattle.nx_position.specs.Positions.{position_of}
use Rattle.std.proofs.lemmas.List.{length-take, length-take-le}
use Rattle.nx_lines.proofs.Moves.{at_of, passed_there, passed_few}
use Rattle.nx_lines.proofs.cursor.Cursor.pass_content.Goals as goal

pub units-requires : goal.units-requires
units-requires c =
    let self = c.args.self.now in
    let few = passed_few self.encoding c.args.text.now self.at c.min.result c.content_len.result c.piece_at-piece.result.now self.position
    c.requires.held c.piece_at-piece.ensures.piece c.requires.place.position c.content_len.ensures.len in
    omega (arith, few)

pub overflow_add-self : goal.overflow_add-self
overflow_add-self c =
    let self = c.args.self.now in
    let few = passed_few self.encoding c.args.text.now self.at c.min.result c.content_len.result c.piece_at-piece.result.now self.position
    c.requires.held c.piece_at-piece.ensures.piece c.requires.place.position c.content_len.ensures.len in
    omega (arith, few)

pub returns-clause-place : goal.returns-clause-place
returns-clause-place c =
    let self = c.args.self.now in let near = take c.min.result c.piece_at-piece.result.now in
    let count : length (take c.content_len.result near) ≡ c.content_len.result = length-take-le c.content_len.result near c.content_len.ensures.bound in
    let short : length near ≤ c.min.result = (let least = length-take c.min.result c.piece_at-piece.result.now in omega (arith, least)) in
    let bound = c.content_len.ensures.bound in let least = c.min.ensures in let behind = c.requires.behind in let within = c.requires.within in
    record {
      within = omega (arith, count, short, bound, least, behind, within);
      position = ap (λ (n : ℕ). at_of self.position.line (self.position.column + n)) c.units.ensures
          ∙ passed_there self.encoding c.args.text.now self.at c.min.result c.content_len.result c.piece_at-piece.result.now self.position
          c.piece_at-piece.ensures.piece c.requires.place.position c.content_len.ensures.len
          ∙ sym (ap (λ (n : ℕ). position_of self.encoding c.args.text.now (self.at + n)) count);
    }
