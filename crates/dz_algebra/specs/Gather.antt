-- What contributions with values of any kind make at their keys (this project).
use Rattle.std.specs.Prelude.{List, [], ◌∷◌, Option, Some, None}
use Rattle.std.specs.declared.cmp.Ordering.{Ordering}
use Rattle.std.specs.Ordering.{match_ordering}

-- one more value at a key, added to the one that stands there
abbrev pub put : {K V : Type 0} → (K → K → Ordering) → (V → V → V) → K → V → List (K × V) → List (K × V)
put cmp add k v [] = (k, v) ∷ []
put cmp add k v (t ∷ ts) = match_ordering (cmp k t.0) (t ∷ put cmp add k v ts) ((t.0, add v t.1) ∷ ts) ((k, v) ∷ t ∷ ts)

-- further contributions, each put onto a list
abbrev pub onto : {K V : Type 0} → (K → K → Ordering) → (V → V → V) → List (K × V) → List (K × V) → List (K × V)
onto cmp add [] ts = ts
onto cmp add (r ∷ rs) ts = put cmp add r.0 r.1 (onto cmp add rs ts)

-- the list that contributions make, the greatest key first
abbrev pub gather : {K V : Type 0} → (K → K → Ordering) → (V → V → V) → List (K × V) → List (K × V)
gather cmp add rs = onto cmp add rs []

-- one pass over two falling lists, adding at equal keys
abbrev pub merge : {K V : Type 0} → (K → K → Ordering) → (V → V → V) → List (K × V) → List (K × V) → List (K × V)
merge cmp add [] rs = rs
merge cmp add (t ∷ ts) [] = t ∷ ts
merge cmp add (t ∷ ts) (r ∷ rs) =
    match_ordering (cmp r.0 t.0)
    (t ∷ merge cmp add ts (r ∷ rs))
    ((t.0, add r.1 t.1) ∷ merge cmp add ts rs)
    (r ∷ merge cmp add (t ∷ ts) rs)

-- the sum of two values, where there are any
abbrev pub joined : {V : Type 0} → (V → V → V) → Option V → Option V → Option V
joined add None y = y
joined add (Some v) None = Some v
joined add (Some v) (Some w) = Some (add v w)

-- what lands at a key: the sum of the values there, if there is one
abbrev pub landed : {K V : Type 0} → (K → K → Ordering) → (V → V → V) → K → List (K × V) → Option V
landed cmp add k [] = None
landed cmp add k (r ∷ rs) = joined add (match_ordering (cmp k r.0) None (Some r.1) None) (landed cmp add k rs)
