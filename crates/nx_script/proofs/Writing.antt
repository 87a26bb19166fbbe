-- Several writes of one text.
use Rattle.std.proofs.Common.{ℕ, ◌≡◌, List, [], ◌++◌, Option, Some, None, Ok, Err, refl, sym, ap, subst, ◌∙◌, append_assoc}
use Rattle.std.proofs.lemmas.List.{append-nil}
use Rattle.nx_host.specs.declared.out.OutFault.{OutFault}
use Rattle.nx_host.specs.declared.out.OutFault.TheVariants.{Failed, NoMemory}
use Rattle.std.specs.Prelude.{Result}
use Rattle.nx_host.specs.Out.{Appends, AppendsPrefix, Writes, WritesInParts}

-- two writes append both texts
pub Appends-then : (before between after : Option (List ℕ)) (first second : List ℕ) → Appends before first between → Appends between second after → Appends before (first ++ second) after
Appends-then None None None first second h k = tt
Appends-then (Some a) (Some b) (Some c) first second h k = k ∙ ap (λ t. t ++ second) h ∙ append_assoc a first second
Appends-then None None (Some c) first second h k = absurd k
Appends-then None (Some b) after first second h k = absurd h
Appends-then (Some a) None after first second h k = absurd h
Appends-then (Some a) (Some b) None first second h k = absurd k

-- where the second of two writes is refused, a part of both texts was written
pub part_after : (fault : OutFault) (before between after : Option (List ℕ)) (first second : List ℕ) → Appends before first between → Writes {A = Unit {0}} (Err fault) between second after → AppendsPrefix before (first ++ second) after
part_after Failed before between after first second h (front, rest, e, k) =
    (first ++ front, rest, ap (λ t. first ++ t) e ∙ sym (append_assoc first front rest), Appends-then before between after first front h k)
part_after NoMemory before between after first second h same = (first, second, refl, subst (λ t. Appends before first t) (sym same) h)

-- nothing more came
pub Appends-nothing : (told : Option (List ℕ)) → Appends told [] told
Appends-nothing None = tt
Appends-nothing (Some a) = sym (append-nil a)

-- of a text what is in front of the rest came, and the rest didn't yet
pub record IsWritten (before : Option (List ℕ)) (whole left : List ℕ) (now : Option (List ℕ)) : Type 0 where
  pub front : List ℕ
  pub same : whole ≡ front ++ left
  pub came : Appends before front now

pub begun : (told : Option (List ℕ)) (whole : List ℕ) → IsWritten told whole whole told
begun told whole = record { front = []; same = refl; came = Appends-nothing told }

pub goes_on : (after : Option (List ℕ)) {before between : Option (List ℕ)} {whole left : List ℕ} (first behind : List ℕ) → IsWritten before whole left between →
    left ≡ first ++ behind → Appends between first after → IsWritten before whole behind after
goes_on after {before = before} {between = between} first behind w e k = record {
  front = w.front ++ first;
  same = w.same ∙ ap (λ t. w.front ++ t) e ∙ sym (append_assoc w.front first behind);
  came = Appends-then before between after w.front first w.came k;
}

pub stopped : (after : Option (List ℕ)) {before between : Option (List ℕ)} {whole left : List ℕ} (first behind : List ℕ) → IsWritten before whole left between →
    left ≡ first ++ behind → AppendsPrefix between first after → AppendsPrefix before whole after
stopped after {before = before} {between = between} first behind w e (front, rest, f, k) = (
  w.front ++ front,
  rest ++ behind,
  w.same ∙ ap (λ t. w.front ++ t) (e ∙ ap (λ t. t ++ behind) f ∙ append_assoc front rest behind) ∙ sym (append_assoc w.front front (rest ++ behind)),
  Appends-then before between after w.front front w.came k,
)

pub ended : {A : Type 0} (result : Result A OutFault) (after : Option (List ℕ)) {before between : Option (List ℕ)} {whole left : List ℕ} → IsWritten before whole left between →
    WritesInParts result between left after → WritesInParts result before whole after
ended (Ok done) after {before = before} {between = between} {left = left} w k =
    subst (λ t. Appends before t after) (sym w.same) (Appends-then before between after w.front left w.came k)
ended (Err fault) after {left = left} w k = stopped after left [] w (sym (append-nil left)) k
