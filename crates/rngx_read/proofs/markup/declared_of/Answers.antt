use Rattle.std.proofs.Common.{ap, ◌++◌, ◌+◌, length, arith}
use Rattle.std.specs.List.{flat_map}
use Rattle.rngx_read.specs.Elements.{declared_of_token}
use Rattle.rngx_read.proofs.Declaring.{room_for, tokens_behind, declared_more, declared_whole}
use Rattle.rngx_read.proofs.markup.declared_of.Goals as goal

pub tokens-init : goal.tokens-init
tokens-init c = record {
  lie = (0, c.requires);
  so_far = ap (λ l. l ++ flat_map declared_of_token c.args.tokens.now) c.new-declared.ensures.items;
}

pub declare-requires : goal.declare-requires
declare-requires c =
    let lie = c.tokens.invariant.lie in
    let room = room_for c.args.len lie.0 c.in-Some.token.now c.in-Some.behind.now c.tokens.rest.now c.in-Some.ensures.cases.0 lie.1 in
    omega (arith, room, c.ranges.len.fits)

pub tokens-preserved : goal.tokens-preserved
tokens-preserved c =
    let lie = c.tokens.invariant.lie in
    let token = c.in-Some.token.now in
    let behind = c.in-Some.behind.now in
    record {
      lie = (
        lie.0 + length token.bytes,
        tokens_behind c.args.len lie.0 token behind c.tokens.rest.now c.in-Some.ensures.cases.0 lie.1,
      );
      so_far =
          declared_more token behind c.tokens.rest.now c.tokens.declared.items c.declare.new.declared.items _ c.in-Some.ensures.cases.0
          c.in_ok-declare.ensures c.tokens.invariant.so_far;
    }

pub returns : goal.returns
returns c = declared_whole c.tokens.rest.now c.tokens.declared.items _ c.in_default.ensures.cases c.tokens.invariant.so_far
