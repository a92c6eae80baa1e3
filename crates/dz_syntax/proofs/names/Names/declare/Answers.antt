use Rattle.std.proofs.Common.{map, ◌≡◌, false, sym, subst}
use Rattle.dz_syntax.specs.Names.{Declared, HasRoom, known}
use Rattle.dz_syntax.specs.declared.names.Group.{Group}
use Rattle.dz_syntax.specs.declared.names.Group.TheVariants.{Independents, Dependents}
use Rattle.dz_syntax.proofs.NameTokens.{declared_is}
use Rattle.dz_syntax.proofs.names.Names.declare.Goals as goal

pub invariant_of-self-in-Independents : goal.invariant_of-self-in-Independents
invariant_of-self-in-Independents c =
    let names : Declared = record { all = map (λ name. name.items) c.self.inside.set.keys; independents = c.self.inside.independents } in
    let new : known names c.args.name.now ≡ false = subst (λ (d : Declared). known d c.args.name.now ≡ false) (sym c.self.view_is) c.requires.new in
    let room : HasRoom Independents 1 names = subst (λ (d : Declared). HasRoom Independents 1 d) (sym c.self.view_is) (subst (λ (g : Group). HasRoom g 1 c.args.self.now) c.in-Independents.is c.requires.room) in
    rw c.in_ok-put_name.ensures.ok (declared_is Independents names c.args.name.now c.self.invariant c.requires.name new room)

pub invariant_of-self-in-Dependents : goal.invariant_of-self-in-Dependents
invariant_of-self-in-Dependents c =
    let names : Declared = record { all = map (λ name. name.items) c.self.inside.set.keys; independents = c.self.inside.independents } in
    let new : known names c.args.name.now ≡ false = subst (λ (d : Declared). known d c.args.name.now ≡ false) (sym c.self.view_is) c.requires.new in
    let room : HasRoom Dependents 1 names = subst (λ (d : Declared). HasRoom Dependents 1 d) (sym c.self.view_is) (subst (λ (g : Group). HasRoom g 1 c.args.self.now) c.in-Dependents.is c.requires.room) in
    rw c.in_ok-put_name.ensures.ok (declared_is Dependents names c.args.name.now c.self.invariant c.requires.name new room)
