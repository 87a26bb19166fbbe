-- Documents that are kept in a table, each seen as what it holds.
use Rattle.std.proofs.Common.{◌≡◌, ◌∙◌, ℕ, Bool, true, false, cond, List, Option, option_map, refl, ap}
use Rattle.std.specs.Str.{bytes_eq}
use Rattle.nx_protocol.specs.Documents.{Document, DocumentMap, Puts}

seen_cond : {V : Type 0} (seen : V → Document) (same : Bool) (given old : Option V) →
    option_map seen (cond same given old) ≡ cond same (option_map seen given) (option_map seen old)
seen_cond seen true given old = refl
seen_cond seen false given old = refl

-- what is put into the table is put under the URI
pub put_seen : {V : Type 0} (seen : V → Document) (old new : List ℕ → Option V) (uri : List ℕ) (given : Option V) →
    ((asked : List ℕ) → new asked ≡ cond (bytes_eq uri asked) given (old asked)) →
    Puts (λ asked. option_map seen (old asked)) uri (option_map seen given) (λ asked. option_map seen (new asked))
put_seen seen old new uri given put asked = ap (option_map seen) (put asked) ∙ seen_cond seen (bytes_eq uri asked) given (old asked)

again : (same : Bool) (given once old : Option Document) → cond same given (cond same once old) ≡ cond same given old
again true given once old = refl
again false given once old = refl

-- what is put where something was put before
pub put_again : (old mid new : DocumentMap) (uri : List ℕ) (once given : Option Document) → Puts old uri once mid → Puts mid uri given new →
    Puts old uri given new
put_again old mid new uri once given first second asked =
    second asked ∙ ap (cond (bytes_eq uri asked) given) (first asked) ∙ again (bytes_eq uri asked) given once (old asked)
