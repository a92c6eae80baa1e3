-- Lists of what commas separate: what is read is in the grammar, and what is in the grammar is read.
use Rattle.std.proofs.Common.{◌≡◌, ℕ, zero, suc, ◌<◌, ◌≤◌, ◌+◌, length, List, [], ◌∷◌, ◌++◌, Result, Ok, Bool, true, false, refl, sym, ap, subst, ◌∙◌, inl, inr, arith}
use Rattle.dz_syntax.specs.declared.token.Token.{Token}
use Rattle.dz_syntax.specs.declared.token.Token.TheVariants.{Comma, Semicolon}
use Rattle.dz_syntax.specs.declared.fault.Fault.{Fault}
use Rattle.dz_syntax.specs.Tokens.{front, behind}
use Rattle.dz_algebra.specs.Outcome.{◌>>=◌}
use Rattle.dz_syntax.specs.Marks.{expected, is_semicolon, separated, separated_from}
use Rattle.dz_syntax.specs.SystemGrammar.{Stands, Element, IsMore, IsSeparated, IsList}
use Rattle.dz_algebra.proofs.Outcomes.{bind_ok}
use Rattle.dz_syntax.proofs.Sound.{ok_is}
use Rattle.dz_syntax.proofs.Complete.{on_ok}
use Rattle.dz_syntax.proofs.Shorter.{past_shorter}
use Rattle.dz_syntax.proofs.NamesGrammar.{stands_sound, stands_complete}

-- what ends an element
abbrev pub ends_element : Token → Bool
ends_element Comma = true
ends_element Semicolon = true
ends_element t = false

semicolon_ends : (t : Token) → is_semicolon t ≡ true → ends_element t ≡ true
semicolon_ends Semicolon e = refl
semicolon_ends t e = absurd cc

module _ {X : Type 0} (reader : List X → List ℕ → Result (X × List ℕ) Fault) (element : Element X) where
  abbrev pub ElementIsSound : Type 0
  ElementIsSound = (found : List X) (text : List ℕ) (x : X × List ℕ) → reader found text ≡ Ok x → element found text x.0 x.1

  -- an element is read, where a comma or a semicolon follows
  abbrev pub ElementIsComplete : Type 0
  ElementIsComplete = (found : List X) (text : List ℕ) (x : X) (rest : List ℕ) → element found text x rest → ends_element (front rest) ≡ true → reader found text ≡ Ok (x, rest)

  abbrev pub ElementShrinks : Type 0
  ElementShrinks = (found : List X) (text : List ℕ) (x : X) (rest : List ℕ) → element found text x rest → length rest ≤ length text

  -- a semicolon does not begin an element
  abbrev pub ElementStarts : Type 0
  ElementStarts = (found : List X) (text : List ℕ) (x : X) (rest : List ℕ) → element found text x rest → is_semicolon (front text) ≡ false

  last_sound : (found : List X) (x : X) (t : Token) (text mid : List ℕ) (y : List X × List ℕ) → front mid ≡ t → element found text x mid
      → (expected (is_semicolon t) mid >>= λ rest. Ok (found ++ x ∷ [], rest)) ≡ Ok y → IsSeparated element found text y.0 y.1
  last_sound found x t text mid y is el e =
      let b = bind_ok (expected (is_semicolon t) mid) (λ rest. Ok (found ++ x ∷ [], rest)) y e in
      let s = stands_sound is_semicolon mid b.0 (ap (λ t. expected (is_semicolon t) mid) is ∙ b.1) in
      subst (λ (y : List X × List ℕ). IsSeparated element found text y.0 y.1) (ok_is (found ++ x ∷ [], b.0) y b.2) (x, mid, mid, 0, el, (refl, refl), s)

  from_sound : (more : List X → List ℕ → Result (List X × List ℕ) Fault) → ((found : List X) (text : List ℕ) (y : List X × List ℕ) → more found text ≡ Ok y → IsSeparated element found text y.0 y.1)
      → (found : List X) (x : X) (t : Token) (text mid : List ℕ) (y : List X × List ℕ) → front mid ≡ t → element found text x mid
      → separated_from more (found ++ x ∷ []) t mid ≡ Ok y → IsSeparated element found text y.0 y.1
  from_sound more sound found x Comma text mid y is el e =
      let r = sound (found ++ x ∷ []) (behind mid) y e in
      (x, mid, r.2, suc r.3, el, (r.0, r.1, is, r.4, r.5), r.6)
  from_sound more sound found x t text mid y is el e = last_sound found x t text mid y is el e

  pub separated_sound : ElementIsSound → (n : ℕ) (found : List X) (text : List ℕ) (y : List X × List ℕ) → separated reader n found text ≡ Ok y → IsSeparated element found text y.0 y.1
  unfolding separated
  separated_sound sound zero found text y e = absurd cc
  separated_sound sound (suc n) found text y e =
      let b = bind_ok (reader found text) (λ x. separated_from (separated reader n) (found ++ x.0 ∷ []) (front x.1) x.1) y e in
      from_sound (separated reader n) (separated_sound sound n) found b.0.0 (front b.0.1) text b.0.1 y refl (sound found text b.0 b.1) b.2

  last_is : (more : List X → List ℕ → Result (List X × List ℕ) Fault) (found : List X) (t : Token) (text : List ℕ) → is_semicolon t ≡ true
      → separated_from more found t text ≡ (expected (is_semicolon t) text >>= λ rest. Ok (found, rest))
  last_is more found Comma text e = absurd cc
  last_is more found t text e = refl

  pub separated_complete : ElementIsComplete → (n fuel : ℕ) (found : List X) (text : List ℕ) (x : X) (mid : List ℕ) (all : List X) (last rest : List ℕ) → n < fuel
      → element found text x mid → IsMore element n (found ++ x ∷ []) mid all last → Stands is_semicolon last rest → separated reader fuel found text ≡ Ok (all, rest)
  unfolding separated
  separated_complete complete n zero found text x mid all last rest lt el more s = absurd (omega arith)
  separated_complete complete zero (suc fuel) found text x mid all last rest lt el more s =
      let semi : is_semicolon (front mid) ≡ true = rw (← more.1) s.0 in
      let h : Stands is_semicolon mid rest = (semi, s.1 ∙ ap behind more.1) in
      on_ok (reader found text) (x, mid) (λ x. separated_from (separated reader fuel) (found ++ x.0 ∷ []) (front x.1) x.1) (complete found text x mid el (semicolon_ends (front mid) semi))
      ∙ last_is (separated reader fuel) (found ++ x ∷ []) (front mid) mid semi
      ∙ on_ok (expected (is_semicolon (front mid)) mid) rest (λ rest. Ok (found ++ x ∷ [], rest)) (stands_complete is_semicolon mid rest h)
      ∙ ap (λ (l : List X). Ok (l, rest)) (sym more.0)
  separated_complete complete (suc n) (suc fuel) found text x mid all last rest lt el more s =
      on_ok (reader found text) (x, mid) (λ x. separated_from (separated reader fuel) (found ++ x.0 ∷ []) (front x.1) x.1) (complete found text x mid el (ap ends_element more.2))
      ∙ ap (λ t. separated_from (separated reader fuel) (found ++ x ∷ []) t mid) more.2
      ∙ separated_complete complete n fuel (found ++ x ∷ []) (behind mid) more.0 more.1 all last rest (omega (arith, lt)) more.3 more.4 s

  pub more_within : ElementShrinks → (n : ℕ) (found : List X) (text : List ℕ) (all : List X) (last : List ℕ) → IsMore element n found text all last → n + length last ≤ length text
  more_within shrinks zero found text all last more = rw more.1 (omega arith)
  more_within shrinks (suc n) found text all last more =
      omega (arith, past_shorter text Comma more.2 refl, shrinks found (behind text) more.0 more.1 more.3, more_within shrinks n (found ++ more.0 ∷ []) more.1 all last more.4)

  -- [elements] ";"
  abbrev pub list_from : Bool → List ℕ → Result (List X × List ℕ) Fault
  list_from true text = Ok ([], behind text)
  list_from false text = separated reader (length text + 1) [] text

  pub list_sound : ElementIsSound → (c : Bool) (text : List ℕ) (y : List X × List ℕ) → is_semicolon (front text) ≡ c → list_from c text ≡ Ok y → IsList element text y.0 y.1
  list_sound sound true text y is e = subst (λ (y : List X × List ℕ). IsList element text y.0 y.1) (ok_is ([], behind text) y e) (inl ((is, refl), refl))
  list_sound sound false text y is e = inr (separated_sound sound (length text + 1) [] text y e)

  pub list_complete : ElementIsComplete → ElementShrinks → ElementStarts → (text : List ℕ) (all : List X) (rest : List ℕ) → IsList element text all rest → list_from (is_semicolon (front text)) text ≡ Ok (all, rest)
  list_complete complete shrinks starts text all rest (inl a) = rw (a.0.0, a.0.1, a.1) refl
  list_complete complete shrinks starts text all rest (inr a) =
      let w = more_within shrinks a.3 ([] ++ a.0 ∷ []) a.1 all a.2 a.5 in
      let v = shrinks [] text a.0 a.1 a.4 in
      ap (λ c. list_from c text) (starts [] text a.0 a.1 a.4)
      ∙ separated_complete complete a.3 (length text + 1) [] text a.0 a.1 all a.2 rest (omega (arith, w, v)) a.4 a.5 a.6
