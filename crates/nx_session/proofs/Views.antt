-- Views whose faults have details that are text.
use Rattle.std.proofs.Common.{◌≡◌, ℕ, zero, suc, List, [], ◌∷◌, map, take, ◌⊎◌, Some, sym, subst, inl, inr}
use Rattle.std.specs.Prelude.{slice_get}
use Rattle.std.proofs.lemmas.Option.{same_Some}
use Rattle.nx_base.specs.Shifting.{moved_fault}
use Rattle.nx_base.specs.declared.edit.Edit.{Edit}
use Rattle.nx_base.specs.declared.fault.Fault.{Fault}
use Rattle.nx_script.specs.Replies.{FaultsAreText}
use Rattle.nx_session.specs.Viewing.{ViewsAreText}
use Rattle.nx_views.specs.Refreshed.{Refreshed, Starved}
use Rattle.nx_views.specs.States.{ViewState, closed_at, moved_view}

moved_details : (edit : Edit) (faults : List Fault) → FaultsAreText faults → FaultsAreText (map (moved_fault edit) faults)
moved_details edit [] h = tt
moved_details edit (fault ∷ faults) h = (h.0, moved_details edit faults h.1)

pub moved_text : (edit : Edit) (views : List ViewState) → ViewsAreText views → ViewsAreText (map (moved_view edit) views)
moved_text edit [] h = tt
moved_text edit (view ∷ views) h = (moved_details edit view.list h.0, moved_text edit views h.1)

pub closed_text : (index : ℕ) (views : List ViewState) → ViewsAreText views → ViewsAreText (closed_at index views)
closed_text index [] h = tt
closed_text zero (view ∷ views) h = h
closed_text (suc index) (view ∷ views) h = (h.0, closed_text index views h.1)

pub refreshed_text : (faults : List Fault) (before behind : List ViewState) → Refreshed faults before behind → FaultsAreText faults → ViewsAreText behind
refreshed_text faults [] [] h text = tt
refreshed_text faults [] (y ∷ ys) h text = absurd h
refreshed_text faults (x ∷ xs) [] h text = tt
refreshed_text faults (x ∷ xs) (y ∷ ys) (inl h) text = (subst FaultsAreText (sym h.0.shows) text, refreshed_text faults xs ys h.1 text)
refreshed_text faults (x ∷ xs) (y ∷ ys) (inr h) text = refreshed_text faults xs (y ∷ ys) h.1 text

front_text : (n : ℕ) (faults : List Fault) → FaultsAreText faults → FaultsAreText (take n faults)
front_text zero faults h = tt
front_text (suc n) [] h = tt
front_text (suc n) (fault ∷ faults) h = (h.0, front_text n faults h.1)

pub starved_text : (faults : List Fault) (before behind : List ViewState) → Starved faults before behind → FaultsAreText faults → ViewsAreText before → ViewsAreText behind
starved_text faults [] [] h text old = tt
starved_text faults [] (y ∷ ys) h text old = absurd h
starved_text faults (x ∷ xs) [] h text old = tt
starved_text faults (x ∷ xs) (y ∷ ys) (inl h) text old =
    (held_text h.0.shows, starved_text faults xs ys h.1 text old.1)
  where
    held_text : (y.list ≡ x.list) ⊎ ((n : ℕ) × (y.list ≡ take n faults)) → FaultsAreText y.list
    held_text (inl same) = subst FaultsAreText (sym same) old.0
    held_text (inr (n, front)) = subst FaultsAreText (sym front) (front_text n faults text)
starved_text faults (x ∷ xs) (y ∷ ys) (inr h) text old = starved_text faults xs (y ∷ ys) h.1 text old.1

-- the view of a number
pub shown_text : (views : List ViewState) (index : ℕ) (view : ViewState) → ViewsAreText views → slice_get views index ≡ Some view → FaultsAreText view.list
shown_text [] index view h is = absurd cc
shown_text (v ∷ views) zero view h is = let same = same_Some v view is in subst (λ (w : ViewState). FaultsAreText w.list) same h.0
shown_text (v ∷ views) (suc index) view h is = shown_text views index view h.1 is

-- ---- by what a call says of the views

pub moved_views : (edit : Edit) (before behind : List ViewState) → behind ≡ map (moved_view edit) before → ViewsAreText before → ViewsAreText behind
moved_views edit before behind is h = subst ViewsAreText (sym is) (moved_text edit before h)

pub closed_views : (index : ℕ) (before behind : List ViewState) → behind ≡ closed_at index before → ViewsAreText before → ViewsAreText behind
closed_views index before behind is h = subst ViewsAreText (sym is) (closed_text index before h)
