-- The machine values of a seat, and what it owns. Assumes `Logic`.
use Rattle.std.proofs.Common.{◌≡◌, ℕ, List, [], ◌∷◌, ◌++◌, refl, subst}
use mathlib.Core.Bool.{true, ◌&&◌}
use lib.Dec.{T}
use seplogic.Ra.Ura.{Ura}
use mir.Syntax.{impl, tnil, dnil}
use mir.Raw.{raw as bare}
use mir.Val.{Val, vstruct, of_list, has_ty, WT}
use base.Logic.{SProp, ent, via, snd∗, guard, guard_i}
use base.Fml.{ftrue, fsep, fex}
use base.Fraction.{full_share}
use types.Logic.{Logic, sem}
use types.Kit.{Item, Goal, Seq, Step, step, ‵, given, ◌$◌, move, drop, learn, use1, fsplit, fjoin, fpick, fpack, feq_i, feq_l}
use contract.Monad.{fact_use}
use denote.RattleType.{RattleType, Valss}
use denote.Builtin.{RawPtr}
use denote.Memory.{lone}
use denote.RawPtr.{Ptr, block_ptr, null_ptr, ptr_val, lies_at, Testable}
use denote.Steps.{nothing}
use denote.Param.{layout}
use denote.Struct.Struct.{within}
use denote.Struct.Owning.{shape}
use Rattle.core.proofs.alloc.Calls.{Al, handle_tells}
use Rattle.core.proofs.cell.Inside.{Good}
use Rattle.core.proofs.atomic.Steps.{Ptr-Good}
use Rattle.std_alloc.proofs.ResultValues.{and_tt}
use Rattle.std.specs.declared.option.Option.{Option}
use Rattle.std.specs.declared.option.Option.TheVariants.{None}
use Rattle.std.specs.declared.alloc.Global.{Global}
use Rattle.std.specs.contracts.alloc.Global as heap
use Rattle.std.proofs.alloc.Global.TheLaws as heap_laws
use Rattle.std.specs.contracts.impls.GlobalAllocator.TheImpl.{ghosts}
use Rattle.std.proofs.GlobalToken.{dealloc_token-Testable}
use Rattle.oth_table.specs.Parts.{Use}
use Rattle.oth_c.specs.Owned.{boxed, owned}
use Rattle.oth_c.specs.contracts.seated.SeatSlot as place
use Rattle.oth_c.specs.contracts.seat.OthSeat as seat
use Rattle.oth_c.proofs.Values.{both}

abbrev pub R : RattleType
R = place.the_row

abbrev pub Z : RattleType
Z = heap.the_row

abbrev pub Seat : RattleType
Seat = seat.the_row

abbrev al : Al
al = record { row = Z; laws = heap_laws.the_row_laws; g = ghosts; d = impl [] tnil dnil; drops = impl [] tnil dnil }

pub seat_good : (p : Ptr) (h : Val) → Good (layout Z) h → T (has_ty (layout Z) h && true) × WT (both (ptr_val p) h)
seat_good null_ptr h fits = (and_tt (has_ty (layout Z) h) fits.0, ((Ptr-Good null_ptr).1, (fits.1, tt)))
seat_good (block_ptr b o) h fits = (and_tt (has_ty (layout Z) h) fits.0, (tt, (fits.1, tt)))

module _ {M : Type 1} {𝓤 : Ura M} (𝓛 : Logic 𝓤) (a : Global) where
  pub tested : (p : Ptr) (x : R.Denot) → ent 𝓤 (sem 𝓛 (boxed a p x)) (guard 𝓤 (Testable p) (sem 𝓛 (boxed a p x)))
  tested p x =
      let B : SProp 𝓤 = sem 𝓛 (boxed a p x) in
      fact_use 𝓤 (Testable p)
      (via 𝓤 _ (snd∗ 𝓤 (sem 𝓛 (lies_at R full_share p x)) (sem 𝓛 (ghosts.dealloc_token a (bare (lone R.mir)) p))) (dealloc_token-Testable 𝓛 a (bare (lone R.mir)) p))
      (guard_i 𝓤 (Testable p) B)

module _ {M : Type 1} {𝓤 : Ura M} {𝓛 : Logic 𝓤} {K : Type 0} {Γ : List (Item 𝓤)} {G : Goal 𝓤 𝓛.H} where
  pub either_owned : K → (a : Global) (p : Ptr) (x : Option Use) → (p ≡ null_ptr → x ≡ None → Seq K 𝓛 Γ G)
      → ((b o : ℕ) (y : R.Denot) → p ≡ block_ptr b o → x ≡ y.seated → Testable (block_ptr b o) → Seq K 𝓛 (‵ (boxed a (block_ptr b o) y) ∷ Γ) G) → Seq K 𝓛 (‵ (owned a p x) ∷ Γ) G
  either_owned t a null_ptr x none one = fpick t (λ e. drop t $ none refl e)
  either_owned t a (block_ptr b o) x none one =
      fpick t
      (λ y.
      fsplit t $
      fpick t (λ e. drop t $ use1 𝓛 (given (Testable (block_ptr b o)) (‵ (boxed a (block_ptr b o) y))) (tested 𝓛 a (block_ptr b o) y) $ learn t (λ s. one b o y refl e s)))

  pub nothing_owned : K → (a : Global) → Step K 𝓛 (‵ (owned a null_ptr None) ∷ Γ) G Γ G
  nothing_owned t a = step (λ s. nothing t $ fpack t (None ≡ None) (λ _. ftrue) refl $ s)

  pub box_owned : K → (a : Global) (b o : ℕ) (y : R.Denot) → Step K 𝓛 (‵ (owned a (block_ptr b o) y.seated) ∷ Γ) G (‵ (boxed a (block_ptr b o) y) ∷ Γ) G
  box_owned t a b o y =
      step
      (λ s.
      nothing t $ fpack t (y.seated ≡ y.seated) (λ _. ftrue) refl $ fjoin t $
      fpack t R.Denot (λ x. fsep (fex (y.seated ≡ x.seated) (λ _. ftrue)) (boxed a (block_ptr b o) x)) y $ s)

  pub seat_out : K → (d : Seat.Denot) (vs : List Val)
      → ((h : Val) → vs ≡ both (ptr_val d.at) h ∷ [] → Good (layout Z) h → Seq K 𝓛 (‵ (owned d.alloc d.at d.held) ∷ ‵ (Z.own_val d.alloc (h ∷ [])) ∷ Γ) G)
      → Seq K 𝓛 (‵ (Seat.own_val d vs) ∷ Γ) G
  seat_out t d vs k =
      fsplit t $ fpick t (λ vss. fsplit t $ feq_l t (λ ev. fsplit t $ feq_l t (λ ep. fsplit t $ handle_tells al t d.alloc vss.1.0 (λ h ea fits. move t (1 ∷ []) $ drop t $ move t (1 ∷ []) $
      k h (subst (λ (ws : List Val). vs ≡ vstruct (of_list (ptr_val d.at ∷ (ws ++ []))) ∷ []) ea (subst (λ (ps : List Val). vs ≡ vstruct (of_list (ps ++ (vss.1.0 ++ []))) ∷ []) ep ev)) fits))))

  pub seat_in : K → (p : Ptr) (h : Val) (a : Global) (x : Option Use)
      → Step K 𝓛 (‵ (Seat.own_val (record { at = p; alloc = a; held = x }) (both (ptr_val p) h ∷ [])) ∷ Γ) G (‵ (owned a p x) ∷ ‵ (Z.own_val a (h ∷ [])) ∷ Γ) G
  seat_in t p h a x = step (λ s. let v : Val = both (ptr_val p) h in
      nothing t $ move t (2 ∷ 0 ∷ []) $ fjoin t $ feq_i t (List Val) (ptr_val p ∷ []) (ptr_val p ∷ []) refl $ fjoin t $ feq_i t (List Val) (v ∷ []) (v ∷ []) refl $ fjoin t $
      fpack t (Valss (RawPtr ∷ Z ∷ [])) (within (shape seat.the_type) (p, (((a.memory.seal, tt), tt), tt)) (v ∷ [])) (ptr_val p ∷ [], (h ∷ [], tt)) $ fjoin t $ s)
