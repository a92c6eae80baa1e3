-- What holds of all members of a list, or of one.
use Rattle.std.specs.Prelude.{◌⊎◌, ⊤, List, [], ◌∷◌}

-- P holds of each
abbrev pub AllOf : {A : Type 0} → (A → Type 0) → List A → Type 0
AllOf P [] = ⊤
AllOf P (x ∷ xs) = P x × AllOf P xs

-- P holds of one
abbrev pub SomeOf : {A : Type 0} → (A → Type 0) → List A → Type 0
SomeOf P [] = ⊥
SomeOf P (x ∷ xs) = P x ⊎ SomeOf P xs
