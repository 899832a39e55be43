use Rattle.std.proofs.Common.{◌≡◌, ℕ, ◌∙◌, ◌⊎◌, true, get_or, refl, sym, inl, inr}
use Rattle.std.proofs.lemmas.Bool.{ne_eqb}
use Rattle.sv_text.specs.White.{is_white}
use Rattle.sv_exchange.proofs.Looking.{semicolon_seen, space_seen, skipped_seen, other_seen}
use Rattle.sv_exchange.proofs.ahead.Ahead.look.Goals.{else-byte-ne59-via-then-byte-ne59+else-not-is_space, else-byte-ne59-via-else-byte-ne59}
use Rattle.sv_exchange.proofs.ahead.Ahead.look.Goals as goal

pub loop-self-preserved : goal.loop-self-preserved
loop-self-preserved c =
    elim c.else-byte-ne59.branch [
      | else-byte-ne59-via-then-byte-ne59+else-not-is_space w ↦
          space_seen c.loop-self.self _ c.args.text.now c.loop-self-test.true (sym w.is_space.ensures ∙ w.if-not-is_space.false)
          c.if-not-self.true c.if-self.false refl refl refl refl refl c.loop-self.invariant
      | else-byte-ne59-via-else-byte-ne59 w ↦ absurd (c.if-byte-eq59.false w.if-byte-ne59.false)
    ]

pub loop-self-preserved-then-not-is_space : goal.loop-self-preserved-then-not-is_space
loop-self-preserved-then-not-is_space c =
    other_seen c.loop-self.self _ c.args.text.now c.loop-self-test.true (ne_eqb _ 59 c.if-byte-ne59.true)
    (sym c.is_space.ensures ∙ c.if-not-is_space.true) c.if-not-self.true refl refl refl refl c.push_all.ensures c.loop-self.invariant

pub loop-self-preserved-then-self : goal.loop-self-preserved-then-self
loop-self-preserved-then-self c =
    let byte : ℕ = get_or c.args.text.now c.loop-self.self.looked 0 in
    let skipped : (byte ≡ 59) ⊎ (is_white byte ≡ true) =
    elim c.else-byte-ne59.branch [
      | else-byte-ne59-via-then-byte-ne59+else-not-is_space w ↦ inr (sym w.is_space.ensures ∙ w.if-not-is_space.false)
      | else-byte-ne59-via-else-byte-ne59 w ↦ inl w.if-byte-ne59.false
    ] in
    skipped_seen c.loop-self.self _ c.args.text.now c.loop-self-test.true skipped c.if-not-self.true c.if-self.true refl refl refl refl
    refl c.loop-self.invariant

pub loop-self-preserved-then-byte-eq59 : goal.loop-self-preserved-then-byte-eq59
loop-self-preserved-then-byte-eq59 c =
    semicolon_seen c.loop-self.self _ c.args.text.now c.loop-self-test.true c.if-byte-eq59.true c.if-not-self.true c.if-self.false refl
    refl refl refl refl c.loop-self.invariant
