-- Which cause a text in the XML syntax is refused for, where several hold.
use Rattle.std.proofs.Common.{◌≡◌, ℕ, List, [], ◌∷◌, Ok, Err, refl, sym, ap, ◌∙◌, inl, inr}
use Rattle.nx_base.specs.declared.fault.Fault.{Fault}
use Rattle.nx_events.specs.Among.{faults_among}
use Rattle.nx_events.specs.Items.{items_of_text}
use Rattle.rngx_read.specs.declared.read.XReadFault.TheVariants as fault
use Rattle.rngx_read.specs.Laws.{FaultsAreToldFirst, DepthIsToldNext}
use Rattle.rngx_read.specs.Reads.{HasBadMarkup}
use Rattle.rngx_read.proofs.Texts.{too_deep}

no_fault : (text : List ℕ) (at : ℕ) → HasBadMarkup text at → faults_among (items_of_text text) ≡ [] → ⊥
no_fault text at h none = let never : [] ≡ h.first ∷ h.others = sym none ∙ h.faults_are in cc

same_first : (one other : Fault) (more others : List Fault) → one ∷ more ≡ other ∷ others → one ≡ other
same_first one other more others e = cc

pub faults_first : FaultsAreToldFirst
faults_first text at (Ok surface) h is = absurd (no_fault text at h is.is_read.no_fault)
faults_first text at (Err (fault.BadMarkup place)) h is =
    let same : is.first ≡ h.first = same_first is.first h.first is.others h.others (sym is.faults_are ∙ h.faults_are) in
    inl (ap (λ (p : ℕ). Err (fault.BadMarkup p)) (is.at_is ∙ ap (λ (it : Fault). it.span.from) same ∙ sym h.at_is))
faults_first text at (Err (fault.TooDeep place)) h is = absurd (no_fault text at h is.no_fault)
faults_first text at (Err (fault.BadForm place)) h is = absurd (no_fault text at h is.0.is_read.no_fault)
faults_first text at (Err (fault.UndeclaredPrefix prefix)) h is = absurd (no_fault text at h is.is_read.no_fault)
faults_first text at (Err fault.NoMemory) h is = inr refl

pub depth_next : DepthIsToldNext
depth_next text at (Ok surface) h is = absurd (too_deep (items_of_text text) at is.shallow h.deep)
depth_next text at (Err (fault.BadMarkup place)) h is = absurd (no_fault text place is h.no_fault)
depth_next text at (Err (fault.TooDeep place)) h is = inl (place, refl)
depth_next text at (Err (fault.BadForm place)) h is = absurd (too_deep (items_of_text text) at is.0.shallow h.deep)
depth_next text at (Err (fault.UndeclaredPrefix prefix)) h is = absurd (too_deep (items_of_text text) at is.shallow h.deep)
depth_next text at (Err fault.NoMemory) h is = inr refl
