-- What is printed of parametric derivatives and cones behind a document (this project's form).
use Rattle.std.specs.Prelude.{◌≡◌, ◌<◌, ℕ, suc, Bool, true, false, cond, nat_lt, List, [], ◌∷◌, ◌++◌, codes, length, slice_index_or}
use Rattle.std.specs.Fmt.{decimal}
use Rattle.std.specs.List.{flat_map}
use Rattle.dz_rank.specs.Rankings.{RankingValue}
use Rattle.dz_rank.specs.Symbols.{BelongsTo}
use Rattle.dz_rank.specs.declared.rankings.Signature.{Signature}
use Rattle.dz_rank.specs.declared.symbols.Symbol.{Symbol}
use Rattle.dz_rank.specs.declared.symbols.Symbol.TheVariants.{Derivative}
use Rattle.dz_syntax.specs.Names.{Declared}
use Rattle.dz_form.specs.Texts.{joined, name_numbered, symbol_text}
use Rattle.dz_diff.specs.State.{State}
use Rattle.dz_parametric.specs.declared.listing.Cone.{Cone}
use Rattle.dz_parametric.specs.Choosing.{parametric_to}
use Rattle.dz_parametric.specs.Cones.{cones_of}

-- the first line: the number of the chain, and the total order
abbrev pub head_line : ℕ → ℕ → List ℕ
head_line number m = codes "parametric chain " ++ decimal number ++ codes " order " ++ decimal m ++ codes "\n"

-- the line of a parametric derivative
abbrev pub free_line : Declared → Symbol → List ℕ
free_line names w = codes "free " ++ symbol_text names w ++ codes "\n"

-- the names of the free directions, from the i-th on
abbrev pub free_names : Declared → ℕ → List Bool → List (List ℕ)
free_names names i [] = []
free_names names i (f ∷ fs) = cond f (name_numbered names i ∷ free_names names (suc i) fs) (free_names names (suc i) fs)

-- names in a line, - where there is none
abbrev pub names_text : List (List ℕ) → List ℕ
names_text [] = codes "-"
names_text (name ∷ more) = joined (codes ",") (name ∷ more)

-- the line of a cone
abbrev pub cone_line : Declared → Cone → List ℕ
cone_line names c = codes "cone " ++ symbol_text names (Derivative c.dependent c.operator) ++ codes " free " ++ names_text (free_names names 0 c.free) ++ codes "\n"

-- there are too many cones to be listed
abbrev pub has_many_cones : RankingValue → State → Bool
has_many_cones r s = nat_lt 4096 (length (cones_of r s))

-- the lines of the cones, or the line that stands in their place
abbrev pub cone_lines : RankingValue → Declared → State → List ℕ
cone_lines r names s = cond (has_many_cones r s) (codes "stopped large cones\n") (flat_map (cone_line names) (cones_of r s))

-- the report of the chain with a number, up to the total order m
unfoldable pub parametric_report : RankingValue → Declared → ℕ → State → ℕ → List ℕ
parametric_report r names number s m =
    head_line number m ++ flat_map (free_line names) (parametric_to r s m) ++ cone_lines r names s ++ codes "end\n"

-- a cone of the derivatives of a signature
pub record IsConeOver (g : Signature) (c : Cone) : Type 0 where
  pub belongs : BelongsTo g (Derivative c.dependent c.operator)
  pub free : (i : ℕ) → slice_index_or c.free i false ≡ true → i < g.independents

-- how the program lists names: some stand before already, or none
abbrev pub listed_names : Declared → Bool → ℕ → List Bool → List ℕ
listed_names names some i [] = cond some [] (codes "-")
listed_names names some i (f ∷ fs) = cond f (cond some (codes ",") [] ++ name_numbered names i ++ listed_names names true (suc i) fs) (listed_names names some (suc i) fs)
