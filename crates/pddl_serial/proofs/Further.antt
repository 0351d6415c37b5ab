-- What is made of what is left of a list, one element further and at the end.
use Rattle.std.proofs.Common.{◌≡◌, ℕ, ◌+◌, ◌≤◌, ◌<◌, Bool, true, false, ◌&&◌, List, [], ◌∷◌, ◌++◌, length, get_or, drop, sym, ap, ◌∙◌, append_assoc}
use Rattle.std.proofs.lemmas.List.{append-nil, at_drop_more, at_drop_all}

-- a list made of each element in turn
module _ {X Y : Type 0} (made : List X → List Y) (of : X → List Y) (nil : made [] ≡ []) (cons : (x : X) (xs : List X) → made (x ∷ xs) ≡ of x ++ made xs) (xs : List X) (i : ℕ) (so_far : List Y) (left : so_far ++ made (drop i xs) ≡ made xs) where
  pub list_more : (d : X) (more new : List Y) → i < length xs → d ≡ get_or xs i d → more ≡ of d → new ≡ so_far ++ more → new ++ made (drop (i + 1) xs) ≡ made xs
  list_more d more new h at more_is new_is =
      let rest = made (drop (i + 1) xs) in
      let here : made (drop i xs) ≡ of (get_or xs i d) ++ rest = at_drop_more made xs i d h ∙ cons (get_or xs i d) (drop (i + 1) xs) in
      ap (λ l. l ++ rest) (new_is ∙ ap (λ m. so_far ++ m) (more_is ∙ ap of at)) ∙ (append_assoc so_far (of (get_or xs i d)) rest ∙ (ap (λ l. so_far ++ l) (sym here) ∙ left))

  pub list_end : length xs ≤ i → so_far ≡ made xs
  list_end h = sym (append-nil so_far) ∙ (ap (λ l. so_far ++ l) (sym (at_drop_all made xs i h ∙ nil)) ∙ left)

-- whether each element passes a test
module _ {X : Type 0} (all : List X → Bool) (test : X → Bool) (nil : all [] ≡ true) (cons : (x : X) (xs : List X) → all (x ∷ xs) ≡ (test x && all xs)) (xs : List X) (i : ℕ) (left : all (drop i xs) ≡ all xs) where
  here : (d : X) → i < length xs → d ≡ get_or xs i d → all (drop i xs) ≡ (test d && all (drop (i + 1) xs))
  here d h at = at_drop_more all xs i d h ∙ (cons (get_or xs i d) (drop (i + 1) xs) ∙ ap (λ x. test x && all (drop (i + 1) xs)) (sym at))

  pub all_more : (d : X) → i < length xs → d ≡ get_or xs i d → test d ≡ true → all (drop (i + 1) xs) ≡ all xs
  all_more d h at passes = sym (ap (λ b. b && all (drop (i + 1) xs)) passes) ∙ (sym (here d h at) ∙ left)

  pub not_all : (d : X) → i < length xs → d ≡ get_or xs i d → test d ≡ false → false ≡ all xs
  not_all d h at fails = sym (ap (λ b. b && all (drop (i + 1) xs)) fails) ∙ (sym (here d h at) ∙ left)

  pub all_end : length xs ≤ i → true ≡ all xs
  all_end h = sym (at_drop_all all xs i h ∙ nil) ∙ left
