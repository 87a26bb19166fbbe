-- A large document, piece by piece.
use Rattle.std.proofs.Common.{◌≡◌, ℕ, suc, ◌+◌, List, ◌++◌, refl, sym, ap, ◌∙◌, add-one, append_assoc}
use Rattle.std.proofs.lemmas.List.{append-nil}
use Rattle.nx_session.specs.LargeDocuments.{next_number, number_at, comment_text, paragraph_text, pieces_text}

pub numbers_begin : (seed : ℕ) → seed ≡ number_at seed 0
unfolding number_at
numbers_begin seed = refl

pub pieces_begin : (seed : ℕ) (head before : List ℕ) → before ≡ head → before ≡ head ++ pieces_text seed 0
unfolding pieces_text
pieces_begin seed head before is = is ∙ sym (append-nil head)

pub numbers_go_on : (seed i number next : ℕ) → number ≡ number_at seed i → next ≡ next_number number → next ≡ number_at seed (i + 1)
unfolding number_at
numbers_go_on seed i number next is h = rw (add-one i) (h ∙ ap next_number is)

one_more : (seed i : ℕ) → pieces_text seed (i + 1) ≡ pieces_text seed i ++ (comment_text i ++ paragraph_text (number_at seed (suc i)))
unfolding pieces_text
one_more seed i = rw (add-one i) refl

pub pieces_go_on : (seed i number : ℕ) (head before between behind : List ℕ) → before ≡ head ++ pieces_text seed i → between ≡ before ++ comment_text i
    → behind ≡ between ++ paragraph_text number → number ≡ number_at seed (i + 1) → behind ≡ head ++ pieces_text seed (i + 1)
pieces_go_on seed i number head before between behind was comment paragraph is =
    let all = pieces_text seed i in
    let here : number ≡ number_at seed (suc i) = rw (← add-one i) is in
    paragraph
    ∙ ap (λ t. t ++ paragraph_text number) (comment ∙ ap (λ t. t ++ comment_text i) was)
    ∙ ap (λ n. (head ++ all ++ comment_text i) ++ paragraph_text n) here
    ∙ append_assoc (head ++ all) (comment_text i) (paragraph_text (number_at seed (suc i)))
    ∙ append_assoc head all (comment_text i ++ paragraph_text (number_at seed (suc i)))
    ∙ ap (λ t. head ++ t) (sym (one_more seed i))
