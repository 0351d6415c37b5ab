-- A lent `Refusing` as the walks of its methods use it, and a call that counts a growth. Assumes `Logic`.
use Rattle.std.proofs.Common.{◌≡◌, ℕ, ◌+◌, Bool, List, [], ◌∷◌, refl, ap}
use seplogic.Ra.Ura.{Ura}
use mir.Syntax.{Args, a_type, dnil, dcons}
use mir.Val.{Val, vbool, vptr}
use base.Logic.{SProp, ent, sep, ex, guard, id⊢}
use base.Fml.{Fml, Lft, Share, ftrue, fsep, flft}
use prog.Memory.{Memory, size, align, up}
use prog.Routine.{Routine}
use contract.Monad.{Fun}
use types.Logic.{Logic, sem}
use types.Kit.{‵, raw, ◌⊛◌, some, later, ◌$◌, ◌∵◌, !, qed, move, keep, use1, split, join, pick, fsplit, fjoin, feq_i, feq_l, check, show, await, updating, now as at_once, done}
use denote.Builtin.{bool, usize, RefOf}
use denote.Memory.{hidden_shr}
use denote.Opens.{unhide}
use denote.Param.{bounded, param}
use denote.RattleType.{RattleType}
use denote.Signature.{Slot, plain}
use denote.Steps.{nothing, only}
use denote.Triple.Spec.{triple_of}
use denote.Triple.Statement.{Contract}
use Rattle.std.proofs.alloc.Calls.{Al, α, seen}
use Rattle.pddl_fakes.specs.contracts.growths.Growths.{the_row as growths_row}
use Rattle.pddl_fakes.specs.contracts.growths.Growths.refuses_next as counting
use Rattle.pddl_fakes.specs.contracts.refusing.Refusing.{the_row as refusing_row}

-- a parameter that is a size or an alignment
abbrev pub number : Slot 2
number = plain (λ _. usize)

-- the growths, lent at an address
abbrev pub seen_growths : Lft → ℕ × ℕ → growths_row.Denot → Fml
seen_growths κ c h = hidden_shr growths_row κ h c.0 c.1

module _ (Z : Al) where
  -- a `Refusing` over this allocator
  abbrev pub whole : RattleType
  whole = refusing_row (param 0 Z.row)

  -- what its methods are given: the inner allocator's type, its methods and its drop
  abbrev pub args : Args
  args = bounded (a_type ∷ []) (Z.row, tt) (dcons Z.d (dcons Z.drops dnil))

  -- the parameter `&self` of its methods
  abbrev pub self : Slot 2
  self = RefOf (0 ∷ []) tt (plain (λ _. whole)) (λ _. tt)

  -- where its inner allocator lies
  abbrev pub inner_at : ℕ × ℕ → ℕ × ℕ
  inner_at p = (p.0, p.1 + up (align (α Z)) 0)

  -- where its growths lie
  abbrev pub growths_at : ℕ × ℕ → ℕ × ℕ
  growths_at p = (p.0, p.1 + up 8 (up (align (α Z)) 0 + size (α Z)))

  module _ {M : Type 1} {𝓤 : Ura M} (𝓛 : Logic 𝓤) (κ : Lft) (p : ℕ × ℕ) (h : whole.Denot) where
    -- its two fields are lent with it
    pub parts : ent 𝓤 (sem 𝓛 (hidden_shr whole κ h p.0 p.1)) (sep 𝓤 (sem 𝓛 (seen Z κ (inner_at p) h.inner)) (sem 𝓛 (seen_growths κ (growths_at p) h.growths)))
    parts = qed 𝓛 (‵ (hidden_shr whole κ h p.0 p.1) ∷ []) ∵ unhide ! $ fsplit ! $ fsplit ! $
        use1 𝓛 (‵ (seen Z κ (inner_at p) h.inner)) (id⊢ 𝓤 _) $ move ! (1 ∷ []) $ fsplit ! $
        use1 𝓛 (‵ (seen_growths κ (growths_at p) h.growths)) (id⊢ 𝓤 _) $ keep ! (2 ∷ 0 ∷ []) $ join ! $ done !

module _ {M : Type 1} {𝓤 : Ura M} (𝓛 : Logic 𝓤) (at_mem : Memory → SProp 𝓤) (run : Routine → Fun 𝓤) where
  -- the contract of the call that counts a growth and answers whether it is refused
  abbrev pub Counts : Contract 𝓤
  Counts = triple_of 𝓛 counting.signature (counting.spec 𝓛 at_mem run)

  -- that call over growths at an address
  abbrev pub at_counts : Lft → Share → ℕ × ℕ → growths_row.Denot → Counts.Ghost
  at_counts κ q c h = (((κ, tt), (q, tt), tt, (record { ref_ptr = c; now = h }, tt), (vptr c.0 c.1 ∷ [], tt)), tt)

  module _ (κ : Lft) (q : Share) (c : ℕ × ℕ) (h : growths_row.Denot) where
    open 𝓛 use {H, A}

    -- what the call is handed
    pub counts_goes : ent 𝓤 (sep 𝓤 (sem 𝓛 (seen_growths κ c h)) (A.lft κ q)) (Counts.pre (at_counts κ q c h))
    counts_goes = qed 𝓛 (‵ (seen_growths κ c h) ∷ ‵ (flft κ q) ∷ []) ∵ feq_i ! (List Val) (vptr c.0 c.1 ∷ []) (vptr c.0 c.1 ∷ []) refl $ fjoin ! $
        nothing ! $ move ! (1 ∷ 0 ∷ []) $ fjoin ! $
        nothing ! $ move ! (2 ∷ 0 ∷ []) $ join ! $ join ! $ nothing ! $ move ! (1 ∷ []) $ done !

    -- what the caller has of it: an answer, and the token again
    pub counts_gives : (v : Val) → ent 𝓤 (Counts.post (at_counts κ q c h) v) (H.⇛ (ex 𝓤 (λ (b : Bool). guard 𝓤 (v ≡ vbool b) (A.lft κ q))))
    counts_gives v = qed 𝓛 (raw (Counts.post (at_counts κ q c h) v) ∷ []) ∵ updating ! $
        use1 𝓛 (later (some (λ (b : Bool). ((‵ (flft κ q) ⊛ ‵ ftrue) ⊛ ‵ (bool.own_val b (v ∷ []))) ⊛
        some (λ (ws : Unit {0} × Unit {0}). ‵ (fsep ftrue ftrue) ⊛ ‵ ftrue)))) (id⊢ 𝓤 _) $ await ! tt $ pick ! (λ b.
        split ! $ split ! $ move ! (1 ∷ []) $ feq_l ! (λ e. split ! $ keep ! (0 ∷ []) $ at_once ! $
        show ! (λ (b' : Bool). guard 𝓤 (v ≡ vbool b') (A.lft κ q)) b $ check ! (ap only e) $ done !))
