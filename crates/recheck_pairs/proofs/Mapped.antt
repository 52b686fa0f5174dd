-- The lists that a closure's calls made are `map`.
use Rattle.std.proofs.Common.{◌≡◌, ℕ, ◌<◌, List, length, map, get_or, sym, ◌∙◌, subst}
use Rattle.std.proofs.lemmas.List.{ext_get_or, get_or-map, length-map}

-- a list with the image of each element in its place
pub mapped : {A B : Type 0} (f : A → B) (xs : List A) (ys : List B) (d : A) → length ys ≡ length xs → ((i : ℕ) → i < length xs → get_or ys i (f d) ≡ f (get_or xs i d)) → ys ≡ map f xs
mapped f xs ys d long at =
    ext_get_or (f d) ys (map f xs) (long ∙ sym (length-map xs f)) (λ i below. let e = subst (λ n. i < n) long below in at i e ∙ sym (get_or-map f xs i d (f d) e))
