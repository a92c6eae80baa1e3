-- What it means that a system was decomposed, that questions were reduced by its chains, that a chain was described,
-- and that a document was checked.
use Rattle.std.specs.Prelude.{◌≡◌, ◌⊎◌, ◌≤◌, ◌↔◌, ◌++◌, ◌-◌, ℕ, true, false, List, codes, drop, length, slice_get, Ok, Err, Option, Some}
use Rattle.std.specs.Io.KnownBytes.{Appends}
use Rattle.dz_algebra.specs.Domain.{Operations}
use Rattle.dz_algebra.specs.Polynomial.{Polynomial}
use Rattle.dz_rank.specs.declared.symbols.Symbol.{Symbol}
use Rattle.dz_monomials.specs.Ranked.{symbols_under}
use Rattle.dz_domain.specs.Point.{Coordinates, FitsSignature}
use Rattle.dz_monomials.specs.Lists.{AllOf, SomeOf}
use Rattle.dz_diff.specs.Operations.{Setting, setting_of}
use Rattle.dz_diff.specs.State.{State}
use Rattle.dz_diff.specs.Tests.{Polynomials}
use Rattle.dz_syntax.specs.declared.endings.Form.TheVariants.{Document, Plain, Questions}
use Rattle.dz_syntax.specs.SystemGrammar.{IsSystem}
use Rattle.dz_syntax.specs.Systems.{Tree as Text}
use Rattle.dz_check.specs.Certified.{IsCertified}
use Rattle.dz_tree.specs.Chains.{IsChain}
use Rattle.dz_move.specs.Root.{System}
use Rattle.dz_tree.specs.Trees.{Tree}
use Rattle.dz_check.specs.Walk.{all_chains, ends_in, ends_of}
use Rattle.dz_ask.specs.Preparation.{IsPartialPreparation, IsPreparation}
use Rattle.dz_ask.specs.Turns.{Course, finished, stopped, passed, preparation}
use Rattle.dz_ask.specs.Vanishing.{RunsToZero}
use Rattle.dz_cert.specs.Documents.{document_of, ended_lines}
use Rattle.dz_parametric.specs.Cones.{cones_of}
use Rattle.dz_parametric.specs.Laws.{IsDescribed}
use Rattle.dz_parametric.specs.Reports.{parametric_report}
use Rattle.dz_report.specs.Preparations.{preparation_report}
use Rattle.dz_report.specs.Reductions.{reduction_report}
use Rattle.dz_zeros.specs.Solves.{HasValueZero, Solves, SolvesChain, SolvesState}
use Rattle.dz_words.specs.declared.words.Request.{Request}
use Rattle.dz_run.specs.declared.ending.Ending.TheVariants.{Done}
use Rattle.dz_run.specs.declared.system.Refused.{Refused}
use Rattle.dz_run.specs.Answer.{Answer, refused_answer}
use Rattle.dz_run.specs.Decomposed.{decomposed, tree_chains}
use Rattle.dz_run.specs.Run.{Input, IsRead}
use Rattle.dz_run.specs.System.{questions_answer, ranking_of, refused_line, system_answer}

-- The whole input was read and spells a system, whose items expand within the limits; the output has grown by the document of a
-- complete certified tree for it, which has this budget; each of its chains is autoreduced and coherent; and a point that has
-- the independents and the dependents of the system solves the system, as it was handed in, exactly where for some chain the
-- equations have value zero, and no initial, separant or inequation has.
pub record IsDecomposed {E : Type 0} (o : Operations E) (point : Coordinates E) (budget : ℕ) (before after : Input) (written written' : Option (List ℕ)) : Type 0 where
  pub bytes : List ℕ
  pub text : Text
  pub system : System
  pub tree : Tree
  pub read : IsRead before after bytes
  pub spelled : IsSystem Plain bytes text
  pub expanded : system_answer text ≡ Ok system
  pub certified : IsCertified (setting_of (ranking_of text)) system tree
  pub complete : all_chains (ends_in (ends_of (setting_of (ranking_of text)) system tree)) ≡ true
  pub has_budget : tree.budget ≡ budget
  pub printed : Appends written written' (document_of (setting_of (ranking_of text)) text.names system tree)
  pub chains : AllOf (IsChain (setting_of (ranking_of text))) (tree_chains (ranking_of text) system tree)
  pub solutions : FitsSignature text.signature point
      → Solves o point system.equations system.inequations ↔ SomeOf (SolvesChain (symbols_under (ranking_of text)) o point) (tree_chains (ranking_of text) system tree)

-- The same where the tree has an open end: it is not complete, and such a point solves the system exactly where it solves the state
-- at some chain or open end.
pub record IsPartlyDecomposed {E : Type 0} (o : Operations E) (point : Coordinates E) (budget : ℕ) (before after : Input) (written written' : Option (List ℕ)) : Type 0 where
  pub bytes : List ℕ
  pub text : Text
  pub system : System
  pub tree : Tree
  pub read : IsRead before after bytes
  pub spelled : IsSystem Plain bytes text
  pub expanded : system_answer text ≡ Ok system
  pub certified : IsCertified (setting_of (ranking_of text)) system tree
  pub incomplete : all_chains (ends_in (ends_of (setting_of (ranking_of text)) system tree)) ≡ false
  pub has_budget : tree.budget ≡ budget
  pub printed : Appends written written' (document_of (setting_of (ranking_of text)) text.names system tree)
  pub chains : AllOf (IsChain (setting_of (ranking_of text))) (tree_chains (ranking_of text) system tree)
  pub solutions : FitsSignature text.signature point
      → Solves o point system.equations system.inequations ↔ SomeOf (λ e. SolvesState o point e.state) (ends_in (ends_of (setting_of (ranking_of text)) system tree))

-- The whole input was read and spells a system, of which an item is refused, or which is too large; the output has grown by the
-- line that says so.
pub record IsRefusedSystem (before after : Input) (written written' : Option (List ℕ)) : Type 0 where
  pub bytes : List ℕ
  pub text : Text
  pub refused : Refused
  pub read : IsRead before after bytes
  pub spelled : IsSystem Plain bytes text
  pub is : system_answer text ≡ Err refused
  pub printed : Appends written written' (refused_line refused)

-- The whole input was read and spells a system with questions, all of whose items expand within the limits; the output has
-- grown by the document of a complete certified tree for the system, which has this budget, and by the report of the full runs
-- on the questions by its chains. Where the runs by all chains end at zero, of which alone the report says `vanishing yes`, the
-- question has value zero at a point that has the independents and the dependents of the system and solves it.
pub record IsReduced {E : Type 0} (o : Operations E) (point : Coordinates E) (budget : ℕ) (before after : Input) (written written' : Option (List ℕ)) : Type 0 where
  pub bytes : List ℕ
  pub text : Text
  pub system : System
  pub questions : Polynomials
  pub tree : Tree
  pub read : IsRead before after bytes
  pub spelled : IsSystem Questions bytes text
  pub expanded : system_answer text ≡ Ok system
  pub asked : questions_answer text ≡ Ok questions
  pub certified : IsCertified (setting_of (ranking_of text)) system tree
  pub complete : all_chains (ends_in (ends_of (setting_of (ranking_of text)) system tree)) ≡ true
  pub has_budget : tree.budget ≡ budget
  pub printed : Appends written written' (document_of (setting_of (ranking_of text)) text.names system tree
      ++ ended_lines (reduction_report (setting_of (ranking_of text)) text.names budget questions (tree_chains (ranking_of text) system tree)).lines)
  pub vanishing : FitsSignature text.signature point → Solves o point system.equations system.inequations
      → AllOf (λ f. AllOf (RunsToZero (setting_of (ranking_of text)) budget f) (tree_chains (ranking_of text) system tree) → HasValueZero o point f) questions

-- what is printed of a preparation of f holds: it is one, or a partial one where the turns stop before their end
abbrev pub CourseHolds : Setting → State → Polynomial Symbol → Course → Type 0
CourseHolds g s f (finished x) = IsPreparation g s f x
CourseHolds g s f (stopped x stop) = IsPartialPreparation g s f x
CourseHolds g s f (passed x) = IsPartialPreparation g s f x

-- The whole input was read and spells a system with questions, all of whose items expand within the limits; the output has
-- grown by the document of a complete certified tree for the system, which has this budget, and by the report of the
-- preparations of the questions by its chains. Each identity that is printed so holds.
pub record IsPrepared (budget : ℕ) (before after : Input) (written written' : Option (List ℕ)) : Type 0 where
  pub bytes : List ℕ
  pub text : Text
  pub system : System
  pub questions : Polynomials
  pub tree : Tree
  pub read : IsRead before after bytes
  pub spelled : IsSystem Questions bytes text
  pub expanded : system_answer text ≡ Ok system
  pub asked : questions_answer text ≡ Ok questions
  pub certified : IsCertified (setting_of (ranking_of text)) system tree
  pub complete : all_chains (ends_in (ends_of (setting_of (ranking_of text)) system tree)) ≡ true
  pub has_budget : tree.budget ≡ budget
  pub printed : Appends written written' (document_of (setting_of (ranking_of text)) text.names system tree
      ++ ended_lines (preparation_report (setting_of (ranking_of text)) text.names budget questions (tree_chains (ranking_of text) system tree)).lines)
  pub identities : AllOf (λ f. AllOf (λ s. CourseHolds (setting_of (ranking_of text)) s f (preparation (setting_of (ranking_of text)) s budget f)) (tree_chains (ranking_of text) system tree)) questions

-- The whole input was read and spells a system with questions, and there is no report: an item is refused, or the system is too
-- large, and one line says so; or the output has grown by the document of a tree with an open end.
pub record IsUnreported (budget : ℕ) (before after : Input) (written written' : Option (List ℕ)) : Type 0 where
  pub bytes : List ℕ
  pub text : Text
  pub answer : Answer
  pub read : IsRead before after bytes
  pub spelled : IsSystem Questions bytes text
  pub printed : Appends written written' answer.output
  pub is : ((e : Refused) × (answer ≡ refused_answer e)) ⊎ ((system : System) × (answer ≡ decomposed (ranking_of text) text.names budget system) × (answer.ending ≡ Done → ⊥))

-- The whole input was read and spells a system, whose items expand within the limits; the output has grown by the document of a
-- complete certified tree for it, which has this budget, and by what is told of its chain with this number: the parametric
-- derivatives up to the order, and all of its cones. What is told so holds of the chain.
pub record HasCones (q : Request) (before after : Input) (written written' : Option (List ℕ)) : Type 0 where
  pub bytes : List ℕ
  pub text : Text
  pub system : System
  pub tree : Tree
  pub chain : State
  pub read : IsRead before after bytes
  pub spelled : IsSystem Plain bytes text
  pub expanded : system_answer text ≡ Ok system
  pub certified : IsCertified (setting_of (ranking_of text)) system tree
  pub complete : all_chains (ends_in (ends_of (setting_of (ranking_of text)) system tree)) ≡ true
  pub has_budget : tree.budget ≡ q.budget
  pub stands : slice_get (tree_chains (ranking_of text) system tree) (q.chain - 1) ≡ Some chain
  pub few : length (cones_of (ranking_of text) chain) ≤ 4096
  pub printed : Appends written written' (document_of (setting_of (ranking_of text)) text.names system tree
      ++ parametric_report (ranking_of text) text.names q.chain chain q.order)
  pub described : IsDescribed (ranking_of text) chain q.order

-- ---- what stands in a document that is checked
-- The whole input was read. It spells a system, whose items expand within the limits, and behind it the document of a certified
-- tree for it, byte for byte. Each chain of the tree is autoreduced and coherent.
pub record IsCertifiedInput (before after : Input) : Type 0 where
  pub bytes : List ℕ
  pub text : Text
  pub system : System
  pub tree : Tree
  pub read : IsRead before after bytes
  pub spelled : IsSystem Document bytes text
  pub expanded : system_answer text ≡ Ok system
  pub document : drop text.document bytes ≡ document_of (setting_of (ranking_of text)) text.names system tree
  pub certified : IsCertified (setting_of (ranking_of text)) system tree
  pub chains : AllOf (IsChain (setting_of (ranking_of text))) (tree_chains (ranking_of text) system tree)

-- The output has grown by `accepted`: the tree is complete; and a point that has the independents and the dependents of the
-- system solves it exactly where it is a regular zero of some chain.
pub record IsAcceptedInput {E : Type 0} (o : Operations E) (point : Coordinates E) (before after : Input) (written written' : Option (List ℕ)) : Type 0 where
  pub input : IsCertifiedInput before after
  pub complete : all_chains (ends_in (ends_of (setting_of (ranking_of input.text)) input.system input.tree)) ≡ true
  pub printed : Appends written written' (codes "accepted\n")
  pub solutions : FitsSignature input.text.signature point
      → Solves o point input.system.equations input.system.inequations ↔ SomeOf (SolvesChain (symbols_under (ranking_of input.text)) o point) (tree_chains (ranking_of input.text) input.system input.tree)

-- The output has grown by `partial`: some end of the tree is open; and such a point solves the system exactly where it solves the
-- state at some chain or open end.
pub record IsPartialInput {E : Type 0} (o : Operations E) (point : Coordinates E) (before after : Input) (written written' : Option (List ℕ)) : Type 0 where
  pub input : IsCertifiedInput before after
  pub incomplete : all_chains (ends_in (ends_of (setting_of (ranking_of input.text)) input.system input.tree)) ≡ false
  pub printed : Appends written written' (codes "partial\n")
  pub solutions : FitsSignature input.text.signature point
      → Solves o point input.system.equations input.system.inequations ↔ SomeOf (λ e. SolvesState o point e.state) (ends_in (ends_of (setting_of (ranking_of input.text)) input.system input.tree))
