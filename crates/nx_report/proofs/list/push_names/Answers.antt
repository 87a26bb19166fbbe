use Rattle.std.proofs.Common.{length, ap, arith}
use Rattle.nx_report.proofs.Words.{names_begun, names_further, behind_word-le}
use Rattle.nx_report.proofs.list.push_names.Goals as goal

pub loop-space-init : goal.loop-space-init
loop-space-init c =
    let text = c.args.text.now in let rest = c.split_word.result.1.now in
    let short = behind_word-le text rest c.split_word.ensures.rest in
    record {
      told = names_begun c.args.out.now.items c.args.introduction.now c.args.own.now text c.split_word.result.0.now rest c.push_words.new.out.items c.push_quoted_name.new.out.items
          c.split_word.ensures.word c.split_word.ensures.rest c.in_ok-push_words.ensures c.in_ok-push_quoted_name.ensures;
      few = omega (arith, short);
    }

pub loop-space-preserved : goal.loop-space-preserved
loop-space-preserved c =
    let names = c.in-Some.names.now in let rest = c.split_word-in-Some.result.1.now in let left = c.loop-space.left.now in
    let short = behind_word-le names rest c.split_word-in-Some.ensures.rest in
    let is = c.in-Some.ensures.cases.0 in
    let len = ap length is in let few = c.loop-space.invariant.few in
    record {
      told = names_further c.args.own.now left names c.split_word-in-Some.result.0.now rest c.loop-space.out.items c.push_other_name.new.out.items _ c.in-Some._space.now c.loop-space.others
          is c.split_word-in-Some.ensures.word c.split_word-in-Some.ensures.rest c.loop-space.invariant.told c.in_ok-push_other_name.ensures;
      few = omega (arith, short, len, few);
    }
