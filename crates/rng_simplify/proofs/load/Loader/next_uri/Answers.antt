use Rattle.std.proofs.Common.{◌≡◌, sym, ap, ◌∙◌, reverse}
use Rattle.std.specs.Str.{bytes_eq}
use Rattle.rng_simplify.proofs.Chains.{leads_to_itself, leads_back, leads_on}
use Rattle.rng_simplify.proofs.load.Loader.next_uri.Goals as goal
use Rattle.rng_simplify.proofs.load.Loader.next_uri.Goals.{then-eq-via-then-eq, then-eq-via-else-eq+then-leads_from}

pub returns-then-eq : goal.returns-then-eq
returns-then-eq c =
    let links = reverse c.args.self.now.chain.items in
    let compared : bytes_eq c.in_ok-uri.uri c.args.base.now ≡ c.eq.result =
    ap (λ x. bytes_eq x c.args.base.now) (sym c.as_slice.ensures) ∙ ap (λ y. bytes_eq c.as_slice.result.now y)
    (sym c.as_slice-2.ensures) ∙ sym c.eq.ensures in (
      c.in_ok-uri.uri,
      c.in_ok-uri.ensures.0,
      elim c.then-eq.branch [
        | then-eq-via-then-eq w ↦ leads_to_itself c.in_ok-uri.uri c.args.base.now links (compared ∙ w.if-eq.true)
        | then-eq-via-else-eq+then-leads_from w ↦ leads_back c.in_ok-uri.uri c.args.base.now links
            (sym w.leads_from.ensures ∙ w.if-leads_from.true)
      ],
    )

pub returns : goal.returns
returns c =
    let links = reverse c.args.self.now.chain.items in
    let compared : bytes_eq c.in_ok-uri.uri c.args.base.now ≡ c.eq.result =
    ap (λ x. bytes_eq x c.args.base.now) (sym c.as_slice.ensures) ∙ ap (λ y. bytes_eq c.as_slice.result.now y)
    (sym c.as_slice-2.ensures) ∙ sym c.eq.ensures in (
      c.in_ok-uri.ensures.0,
      c.in_ok-uri.ensures.1,
      leads_on c.in_ok-uri.uri c.args.base.now links (compared ∙ c.if-eq.false)
          (sym c.leads_from.ensures ∙ c.if-leads_from.false),
    )
