-- The text of a line is read as the line.
use Rattle.std.proofs.Common.{◌≡◌, ℕ, zero, suc, ◌<◌, ◌≤◌, ◌^◌, nat_lt, true, false, not, ◌&&◌, List, [], ◌∷◌, ◌++◌, sum, Option, Some, None, refl, sym, ap, ◌∙◌, arith}
use Rattle.std.specs.Prelude.{codes}
use Rattle.std.specs.Fmt.{decimal}
use Rattle.std.specs.List.{list_all}
use Rattle.std.specs.Option.{option_map}
use Rattle.std.proofs.lemmas.Bool.Decides.{nat_tests}
use Rattle.dz_algebra.specs.declared.Limit.{Limit}
use Rattle.dz_algebra.specs.declared.Limit.TheVariants as limits
use Rattle.dz_rank.specs.declared.symbols.Operator.{Operator}
use Rattle.dz_rank.specs.declared.symbols.Symbol.{Symbol}
use Rattle.dz_rank.specs.declared.symbols.Symbol.TheVariants.{Independent, Derivative}
use Rattle.dz_rank.specs.Symbols.{BelongsTo, IsOperatorOf, total_order}
use Rattle.dz_step.specs.declared.Step.{Step}
use Rattle.dz_step.specs.declared.Which.{Which}
use Rattle.dz_step.specs.declared.Which.TheVariants.{Initial, Separant}
use Rattle.dz_syntax.specs.Names.{Declared, IsDeclared, signature_of}
use Rattle.dz_form.specs.Reading.{operator_at, symbol_at}
use Rattle.dz_form.specs.Texts.{operator_text, symbol_text}
use Rattle.dz_form.proofs.CutTexts.{lacks, split_once-at}
use Rattle.dz_form.proofs.OperatorsRead as operators
use Rattle.dz_form.proofs.SymbolsRead as symbols
use Rattle.dz_form.proofs.TextTokens.{both_true}
use Rattle.dz_form.proofs.TextsDiffer.{operator_text-injective, symbol_text-injective}
use Rattle.dz_tree.specs.Forms.{is_add, is_place, is_spelled, is_spelled_action, is_spelled_operator, is_spelled_step, is_spelled_symbol, takes_out}
use Rattle.dz_tree.specs.Forms.{is_empty}
use Rattle.dz_move.specs.Lines.{Evidence, Line, act, closed, chain, pair, spent, spent_pairs, open_wide, open_separant, open_large}
use Rattle.dz_move.specs.Moves.{Action, reduce, weed, add, divide, split, factor}
use Rattle.dz_cert.specs.declared.words.Word.{Word}
use Rattle.dz_cert.specs.declared.words.Word.TheVariants as words
use Rattle.dz_cert.specs.LineReading.{factor_at, limit_at, line_at, line_from, next_by, pair_at, place_at, positive, run_at, split_at, step_at, steps_at, which_at}
use Rattle.dz_cert.specs.LineTexts.{AreStepsOf, IsActionOf, IsLineOf, IsStepOf, action_words, behind_blanks, line_text, line_words, spaced, step_text, step_words, which_word}
use Rattle.dz_form.specs.Limits.{limit_word}
use Rattle.dz_cert.specs.Words.{word_at}
use Rattle.dz_cert.proofs.Lacking.{AllLack, IsOutside, blank_outside, decimal-lacks, decimal-lacks_colon, feed_outside, lacks-append, operator_text-lacks, symbol_text-lacks}
use Rattle.dz_cert.proofs.LineWords.{LackBlanks, words_of-spaced}
use Rattle.dz_cert.proofs.Numbers.{number_at-decimal}

-- ---- parts
-- a place
place_read : (i : ℕ) → is_place i ≡ true → i < 2 ^ 16 → place_at (decimal i) ≡ Some i
unfolding place_at
place_read zero is most = absurd cc
place_read (suc n) is most = ap positive (number_at-decimal 65535 (suc n) (omega arith) (omega arith))

-- an operator, by what is read
operator_by : (names : Declared) (o : Operator) (r : Option Operator) → IsDeclared names → IsOperatorOf names.independents o → sum o.counts ≤ 60 → operator_at names (operator_text names o) ≡ r → r ≡ Some o
operator_by names o None d of order e = absurd (operators.when_none names (operator_text names o) None d (sym e) o (record { operator = of; order = order; text_is = refl }))
operator_by names o (Some p) d of order e =
    let f = operators.when_found names (operator_text names o) (Some p) d (sym e) in
    ap (λ (x : Operator). Some x) (operator_text-injective names p o d f.operator of f.order order f.text_is)

-- an operator
operator_read : (names : Declared) (o : Operator) → IsDeclared names → IsOperatorOf names.independents o → sum o.counts ≤ 60 → operator_at names (operator_text names o) ≡ Some o
operator_read names o d of order = operator_by names o (operator_at names (operator_text names o)) d of order refl

-- a symbol, by what is read
symbol_by : (names : Declared) (v : Symbol) (r : Option Symbol) → IsDeclared names → BelongsTo (signature_of names) v → total_order v ≤ 60 → symbol_at names (symbol_text names v) ≡ r → r ≡ Some v
symbol_by names v None d of order e = absurd (symbols.when_none names (symbol_text names v) None d (sym e) v (record { symbol = of; order = order; text_is = refl }))
symbol_by names v (Some w) d of order e =
    let f = symbols.when_found names (symbol_text names v) (Some w) d (sym e) in
    ap (λ (x : Symbol). Some x) (symbol_text-injective names w v d f.symbol of f.order order f.text_is)

-- the order of a symbol that can be spelled
symbol_order : (v : Symbol) → is_spelled_symbol v ≡ true → total_order v ≤ 60
symbol_order (Independent i) e = omega arith
symbol_order (Derivative u t) e = let f = (both_true (nat_lt u 16) (is_spelled_operator t) e).1 in grind (arith, nat_tests)

-- a symbol
symbol_read : (names : Declared) (v : Symbol) → IsDeclared names → is_spelled_symbol v ≡ true → BelongsTo (signature_of names) v → symbol_at names (symbol_text names v) ≡ Some v
symbol_read names v d spelled of = symbol_by names v (symbol_at names (symbol_text names v)) d of (symbol_order v spelled) refl

-- a step
step_read : (names : Declared) (s : Step) → IsDeclared names → is_spelled_step s ≡ true → IsStepOf names s → step_at names (step_text names s) ≡ Some s
unfolding step_at step_text
step_read names s d spelled of =
    let f = both_true (is_place s.place) (is_spelled_operator s.operator) spelled in
    let order : sum s.operator.counts ≤ 60 = let g = f.1 in grind (arith, nat_tests) in
    let most = of.place in
    rw (split_once-at 58 (decimal s.place) (operator_text names s.operator) (decimal-lacks_colon s.place), place_read s.place f.0 most, operator_read names s.operator d of.operator order) refl

-- steps
steps_read : (names : Declared) (steps : List Step) → IsDeclared names → list_all is_spelled_step steps ≡ true → AreStepsOf names steps → steps_at names (step_words names steps) ≡ Some steps
steps_read names [] d spelled of = refl
steps_read names (s ∷ steps) d spelled of =
    let f = both_true (is_spelled_step s) (list_all is_spelled_step steps) spelled in
    rw (step_read names s d f.0 of.0, steps_read names steps d f.1 of.1) refl

-- a place and a run
run_read : (names : Declared) (i : ℕ) (steps : List Step) → IsDeclared names → (is_place i && (not (is_empty steps) && list_all is_spelled_step steps)) ≡ true → i < 2 ^ 16 → AreStepsOf names steps
    → run_at names (decimal i ∷ step_words names steps) ≡ Some (i, steps)
run_read names i [] d spelled most of = absurd (let f = (both_true (is_place i) false spelled).1 in cc)
run_read names i (s ∷ steps) d spelled most of =
    let f = both_true (is_place i) (list_all is_spelled_step (s ∷ steps)) spelled in
    rw (place_read i f.0 most, steps_read names (s ∷ steps) d f.1 of) refl

-- a place and a symbol
factor_read : (names : Declared) (i : ℕ) (v : Symbol) → IsDeclared names → (is_place i && is_spelled_symbol v) ≡ true → i < 2 ^ 16 → BelongsTo (signature_of names) v
    → factor_at names (decimal i ∷ symbol_text names v ∷ []) ≡ Some (i, v)
factor_read names i v d spelled most of =
    let f = both_true (is_place i) (is_spelled_symbol v) spelled in
    rw (place_read i f.0 most, symbol_read names v d f.1 of) refl

-- a multiplier
which_read : (which : Which) → which_at (which_word which) ≡ Some which
unfolding which_at
which_read Initial = refl
which_read Separant = refl

-- a place and a multiplier
split_read : (i : ℕ) (which : Which) → is_place i ≡ true → i < 2 ^ 16 → split_at (decimal i ∷ which_word which ∷ []) ≡ Some (i, which)
split_read i which spelled most = rw (place_read i spelled most, which_read which) refl

-- a limit
limit_read : (limit : Limit) → limit_at (limit_word limit) ≡ Some limit
unfolding limit_at
limit_read limits.Order = refl
limit_read limits.Exponent = refl
limit_read limits.Symbols = refl
limit_read limits.Terms = refl
limit_read limits.Polynomials = refl
limit_read limits.Node = refl
limit_read limits.Splits = refl

-- two places and steps
pair_read : (names : Declared) (i j : ℕ) (steps : List Step) → IsDeclared names → (is_place i && (is_place j && list_all is_spelled_step steps)) ≡ true → i < 2 ^ 16 → j < 2 ^ 16 → AreStepsOf names steps
    → pair_at names (decimal i ∷ decimal j ∷ step_words names steps) ≡ Some (record { first = i; second = j; steps = steps })
pair_read names i j steps d spelled most also of =
    let f = both_true (is_place i) (is_place j && list_all is_spelled_step steps) spelled in
    let g = both_true (is_place j) (list_all is_spelled_step steps) f.1 in
    rw (place_read i f.0 most, place_read j g.0 also, steps_read names steps d g.1 of) refl

-- ---- operations
-- the word of an operation that an open end names
abbrev next_word : Action → Word
next_word (reduce i steps) = words.Reduce
next_word (weed j steps) = words.Weed
next_word (add i j steps) = words.Pair
next_word (divide i v) = words.Divide
next_word (split i which) = words.Split
next_word (factor i v) = words.Factor

-- the words behind it
abbrev next_rest : Declared → Action → List (List ℕ)
next_rest names (reduce i steps) = decimal i ∷ step_words names steps
next_rest names (weed j steps) = decimal j ∷ step_words names steps
next_rest names (add i j steps) = decimal i ∷ decimal j ∷ step_words names steps
next_rest names (divide i v) = decimal i ∷ symbol_text names v ∷ []
next_rest names (split i which) = decimal i ∷ which_word which ∷ []
next_rest names (factor i v) = decimal i ∷ symbol_text names v ∷ []

-- the operation is read
next_read : (names : Declared) (a : Action) → IsDeclared names → is_spelled_action a ≡ true → IsActionOf names a → next_by names (Some (next_word a)) (next_rest names a) ≡ Some a
next_read names (reduce i steps) d spelled of = ap (option_map (λ (r : ℕ × List Step). reduce r.0 r.1)) (run_read names i steps d spelled of.0 of.1)
next_read names (weed j steps) d spelled of = ap (option_map (λ (r : ℕ × List Step). weed r.0 r.1)) (run_read names j steps d spelled of.0 of.1)
next_read names (add i j steps) d spelled of = ap (option_map (λ (e : Evidence). add e.first e.second e.steps)) (pair_read names i j steps d spelled of.0 of.1 of.2)
next_read names (divide i v) d spelled of = ap (option_map (λ (r : ℕ × Symbol). divide r.0 r.1)) (factor_read names i v d spelled of.0 of.1)
next_read names (split i which) d spelled of = ap (option_map (λ (r : ℕ × Which). split r.0 r.1)) (split_read i which spelled of)
next_read names (factor i v) d spelled of = ap (option_map (λ (r : ℕ × Symbol). factor r.0 r.1)) (factor_read names i v d spelled of.0 of.1)

-- ---- lines
-- a move or a fork
act_read : (names : Declared) (a : Action) → IsDeclared names → is_spelled_action a ≡ true → IsActionOf names a → line_from names (line_words names (act a)) ≡ Some (act a)
unfolding word_at
act_read names (add i j steps) d spelled of = ap (option_map (λ (e : Evidence). act (add e.first e.second e.steps))) (pair_read names i j steps d spelled of.0 of.1 of.2)
act_read names (reduce i steps) d spelled of = ap (option_map act) (next_read names (reduce i steps) d spelled of)
act_read names (weed i steps) d spelled of = ap (option_map act) (next_read names (weed i steps) d spelled of)
act_read names (divide i v) d spelled of = ap (option_map act) (next_read names (divide i v) d spelled of)
act_read names (split i which) d spelled of = ap (option_map act) (next_read names (split i which) d spelled of)
act_read names (factor i v) d spelled of = ap (option_map act) (next_read names (factor i v) d spelled of)

-- an end that names what passes the budget
spent_read : (names : Declared) (a : Action) → IsDeclared names → (not (is_add a) && is_spelled_action a) ≡ true → IsActionOf names a → line_from names (line_words names (spent a)) ≡ Some (spent a)
unfolding word_at
spent_read names (add i j steps) d spelled of = absurd cc
spent_read names (reduce i steps) d spelled of = ap (option_map spent) (next_read names (reduce i steps) d spelled of)
spent_read names (weed i steps) d spelled of = ap (option_map spent) (next_read names (weed i steps) d spelled of)
spent_read names (divide i v) d spelled of = ap (option_map spent) (next_read names (divide i v) d spelled of)
spent_read names (split i which) d spelled of = ap (option_map spent) (next_read names (split i which) d spelled of)
spent_read names (factor i v) d spelled of = ap (option_map spent) (next_read names (factor i v) d spelled of)

-- an end that names what does not fit
wide_read : (names : Declared) (a : Action) → IsDeclared names → (not (takes_out a) && is_spelled_action a) ≡ true → IsActionOf names a → line_from names (line_words names (open_wide a)) ≡ Some (open_wide a)
unfolding word_at
wide_read names (divide i v) d spelled of = absurd cc
wide_read names (factor i v) d spelled of = absurd cc
wide_read names (add i j steps) d spelled of = ap (option_map open_wide) (next_read names (add i j steps) d spelled of)
wide_read names (reduce i steps) d spelled of = ap (option_map open_wide) (next_read names (reduce i steps) d spelled of)
wide_read names (weed i steps) d spelled of = ap (option_map open_wide) (next_read names (weed i steps) d spelled of)
wide_read names (split i which) d spelled of = ap (option_map open_wide) (next_read names (split i which) d spelled of)

-- an end that names a limit
large_read : (names : Declared) (limit : Limit) (a : Action) → IsDeclared names → is_spelled_action a ≡ true → IsActionOf names a → line_from names (line_words names (open_large limit a)) ≡ Some (open_large limit a)
unfolding word_at
large_read names limit (add i j steps) d spelled of = rw (limit_read limit) (ap (option_map (open_large limit)) (next_read names (add i j steps) d spelled of))
large_read names limit (reduce i steps) d spelled of = rw (limit_read limit) (ap (option_map (open_large limit)) (next_read names (reduce i steps) d spelled of))
large_read names limit (weed i steps) d spelled of = rw (limit_read limit) (ap (option_map (open_large limit)) (next_read names (weed i steps) d spelled of))
large_read names limit (divide i v) d spelled of = rw (limit_read limit) (ap (option_map (open_large limit)) (next_read names (divide i v) d spelled of))
large_read names limit (split i which) d spelled of = rw (limit_read limit) (ap (option_map (open_large limit)) (next_read names (split i which) d spelled of))
large_read names limit (factor i v) d spelled of = rw (limit_read limit) (ap (option_map (open_large limit)) (next_read names (factor i v) d spelled of))

-- the words of a line are read
pub line_from-words : (names : Declared) (line : Line) → IsDeclared names → is_spelled line ≡ true → IsLineOf names line → line_from names (line_words names line) ≡ Some line
unfolding word_at
line_from-words names (act a) d spelled of = act_read names a d spelled of
line_from-words names closed d spelled of = refl
line_from-words names chain d spelled of = refl
line_from-words names (pair e) d spelled of = ap (option_map pair) (pair_read names e.first e.second e.steps d spelled of.0 of.1 of.2)
line_from-words names (spent a) d spelled of = spent_read names a d spelled of
line_from-words names spent_pairs d spelled of = refl
line_from-words names (open_wide a) d spelled of = wide_read names a d spelled of
line_from-words names (open_separant i) d spelled of = ap (option_map open_separant) (place_read i spelled of)
line_from-words names (open_large limit a) d spelled of = large_read names limit a d spelled of

-- ---- texts
-- no step has the mark
step_lacks : (mark : ℕ) (names : Declared) (s : Step) → IsOutside mark → IsDeclared names → IsStepOf names s → lacks mark (step_text names s) ≡ true
unfolding step_text
step_lacks mark names s out d of =
    let most = of.place in
    lacks-append mark (decimal s.place) (codes ":" ++ operator_text names s.operator) (decimal-lacks mark out.digit s.place)
    (lacks-append mark (codes ":") (operator_text names s.operator) out.colon (operator_text-lacks mark names s.operator out d))

-- nor have steps
steps_lack : (mark : ℕ) (names : Declared) (steps : List Step) → IsOutside mark → IsDeclared names → AreStepsOf names steps → AllLack mark (step_words names steps)
steps_lack mark names [] out d of = tt
steps_lack mark names (s ∷ steps) out d of = (step_lacks mark names s out d of.0, steps_lack mark names steps out d of.1)

-- nor has a place
place_lacks : (mark i : ℕ) → IsOutside mark → i < 2 ^ 16 → lacks mark (decimal i) ≡ true
place_lacks mark i out most = decimal-lacks mark out.digit i

-- nor have the words of an operation
action_lack : (mark : ℕ) (names : Declared) (paired : List ℕ) (a : Action) → IsOutside mark → IsDeclared names → lacks mark paired ≡ true → IsActionOf names a → AllLack mark (action_words names paired a)
action_lack mark names paired (reduce i steps) out d e of = (out.word words.Reduce, (place_lacks mark i out of.0, steps_lack mark names steps out d of.1))
action_lack mark names paired (weed j steps) out d e of = (out.word words.Weed, (place_lacks mark j out of.0, steps_lack mark names steps out d of.1))
action_lack mark names paired (add i j steps) out d e of = (e, (place_lacks mark i out of.0, (place_lacks mark j out of.1, steps_lack mark names steps out d of.2)))
action_lack mark names paired (divide i v) out d e of = (out.word words.Divide, (place_lacks mark i out of.0, (symbol_text-lacks mark names v out d, tt)))
action_lack mark names paired (split i which) out d e of = (out.word words.Split, (place_lacks mark i out of, (out.which which, tt)))
action_lack mark names paired (factor i v) out d e of = (out.word words.Factor, (place_lacks mark i out of.0, (symbol_text-lacks mark names v out d, tt)))

-- nor have the words of a line
line_lacks : (mark : ℕ) (names : Declared) (line : Line) → IsOutside mark → IsDeclared names → IsLineOf names line → AllLack mark (line_words names line)
line_lacks mark names (act a) out d of = action_lack mark names (codes "add") a out d (out.word words.Add) of
line_lacks mark names closed out d of = (out.word words.Closed, tt)
line_lacks mark names chain out d of = (out.word words.Chain, tt)
line_lacks mark names (pair e) out d of = (out.word words.Pair, (place_lacks mark e.first out of.0, (place_lacks mark e.second out of.1, steps_lack mark names e.steps out d of.2)))
line_lacks mark names (spent a) out d of = (out.word words.Open, (out.word words.Spent, action_lack mark names (codes "pair") a out d (out.word words.Pair) of))
line_lacks mark names spent_pairs out d of = (out.word words.Open, (out.word words.Spent, (out.word words.Pairs, tt)))
line_lacks mark names (open_wide a) out d of = (out.word words.Open, (out.word words.Wide, action_lack mark names (codes "pair") a out d (out.word words.Pair) of))
line_lacks mark names (open_separant i) out d of = (out.word words.Open, (out.word words.Wide, (out.word words.Separant, (place_lacks mark i out of, tt))))
line_lacks mark names (open_large limit a) out d of = (out.word words.Open, (out.word words.Large, (out.limit limit, action_lack mark names (codes "pair") a out d (out.word words.Pair) of)))

-- words with blanks between them
behind_lack : (ws : List (List ℕ)) → AllLack 10 ws → lacks 10 (behind_blanks ws) ≡ true
behind_lack [] all = refl
behind_lack (w ∷ ws) all = lacks-append 10 (codes " " ++ w) (behind_blanks ws) all.0 (behind_lack ws all.1)

-- words with blanks between them
spaced_lack : (ws : List (List ℕ)) → AllLack 10 ws → lacks 10 (spaced ws) ≡ true
spaced_lack [] all = refl
spaced_lack (w ∷ ws) all = lacks-append 10 w (behind_blanks ws) all.0 (behind_lack ws all.1)

-- the text of a line has no line feed
pub line_text-lacks : (names : Declared) (line : Line) → IsDeclared names → IsLineOf names line → lacks 10 (line_text names line) ≡ true
unfolding line_text
line_text-lacks names line d of = spaced_lack (line_words names line) (line_lacks 10 names line feed_outside d of)

-- words that are read are read from their text
text_read : (names : Declared) (ws : List (List ℕ)) (line : Line) → LackBlanks ws → line_from names ws ≡ Some line → line_at names (spaced ws) ≡ Some line
unfolding line_at
text_read names [] line all e = absurd cc
text_read names (word ∷ ws) line all e = ap (line_from names) (words_of-spaced word ws all.0 all.1) ∙ e

-- the text of a line is read as the line
pub line_at-text : (names : Declared) (line : Line) → IsDeclared names → is_spelled line ≡ true → IsLineOf names line → line_at names (line_text names line) ≡ Some line
unfolding line_text
line_at-text names line d spelled of = text_read names (line_words names line) line (line_lacks 32 names line blank_outside d of) (line_from-words names line d spelled of)
