use Rattle.std.proofs.Common.{◌≡◌, Bool, false, List, ◌∷◌, [], refl, ◌∙◌}
use Rattle.std.specs.Prelude.{if◌then◌else◌}
use Rattle.std.specs.List.{list_any}
use Rattle.dz_rank.specs.declared.symbols.Symbol.{Symbol}
use Rattle.dz_rank.specs.declared.symbols.Symbol.TheVariants.{Independent, Derivative}
use Rattle.dz_rank.specs.contracts.symbols.SymbolPartialEq.TheImpl.{eq-value}
use Rattle.dz_syntax.specs.Values.{same_symbol}
use Rattle.dz_syntax.proofs.values.put_symbol.Goals as goal

same_is_equal : (v w : Symbol) → eq-value.it v w ≡ same_symbol v w
same_is_equal (Independent i) (Independent j) = refl
same_is_equal (Independent i) (Derivative u s) = refl
same_is_equal (Derivative u s) (Independent i) = refl
same_is_equal (Derivative u s) (Derivative v t) = refl

any_same : (v : Symbol) (ws : List Symbol) → list_any (eq-value.it v) ws ≡ list_any (λ w. same_symbol v w) ws
any_same v [] = refl
any_same v (w ∷ ws) = rw (same_is_equal v w, any_same v ws) refl

otherwise : (b c : Bool) → b ≡ c → c ≡ false → (x y : List Symbol) → (if b then x else y) ≡ y
otherwise b c e f x y = rw (e, f) refl

pub returns : goal.returns
returns c =
    c.in-Ok.ensures.keys ∙ otherwise _ _ (any_same c.args.symbol c.args.valued.now.keys) c.requires _ _
