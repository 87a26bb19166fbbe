use Rattle.std.proofs.Common.{refl, subst}
use Rattle.std.specs.Str.{IsUtf8}
use Rattle.rnc_lex.proofs.LettersRead.{letters_begin, letters_more, letters_fault, letters_end, cut_fits, read_is, shorter_still}
use Rattle.rnc_lex.proofs.letter.letters.Goals as goal

pub loop-first-init : goal.loop-first-init
loop-first-init c = (c.without_mark-rest.utf8, c.without_mark-rest.ensures.within, letters_begin _ _ _ c.in_ok-letters.ensures.items c.without_mark-rest.ensures.value)

pub range_from-rest-requires : goal.range_from-rest-requires
range_from-rest-requires c =
    let utf8 = subst IsUtf8 c.as_bytes.ensures.value c.as_bytes.ensures.utf8 in
    let read = read_is _ _ _ _ _ c.first_letter.ensures c.as_bytes.ensures.value c.in-Letter.is in
    λ _. cut_fits _ _ _ _ _ utf8 read

pub loop-first-preserved : goal.loop-first-preserved
loop-first-preserved c =
    let utf8 = subst IsUtf8 c.as_bytes.ensures.value c.as_bytes.ensures.utf8 in
    let read = read_is _ _ _ _ _ c.first_letter.ensures c.as_bytes.ensures.value c.in-Letter.is in (
      c.range_from-rest.utf8,
      shorter_still _ _ _ _ _ c.range_from-rest.ensures.value c.in-Some.ensures.shorter c.loop-first.invariant.1,
      letters_more _ _ _ _ _ _ _ _ _ _ _ c.loop-first.invariant.0 utf8 c.in-Some.ensures.split read c.range_from-rest.ensures.value c.in_ok-push-in-Letter.ensures.items c.loop-first.invariant.2,
    )

pub returns-in-BrokenEscape : goal.returns-in-BrokenEscape
returns-in-BrokenEscape c =
    let utf8 = subst IsUtf8 c.as_bytes.ensures.value c.as_bytes.ensures.utf8 in
    let read = read_is _ _ _ _ _ c.first_letter.ensures c.as_bytes.ensures.value c.in-BrokenEscape.is in
    letters_fault _ _ _ _ _ _ _ _ c.loop-first.invariant.0 utf8 c.in-Some.ensures.split read refl c.loop-first.invariant.2

pub returns-in-NoChar : goal.returns-in-NoChar
returns-in-NoChar c =
    let utf8 = subst IsUtf8 c.as_bytes.ensures.value c.as_bytes.ensures.utf8 in
    let read = read_is _ _ _ _ _ c.first_letter.ensures c.as_bytes.ensures.value c.in-NoChar.is in
    letters_fault _ _ _ _ _ _ _ _ c.loop-first.invariant.0 utf8 c.in-Some.ensures.split read refl c.loop-first.invariant.2

pub returns : goal.returns
returns c = letters_end _ _ _ _ c.in_default.ensures.split c.loop-first.invariant.2
