-- What a worker's duty keeps.
use Rattle.std.proofs.Common.{◌≡◌, Bool, true, false, cond, ℕ, ◌+◌, ◌<◌, ◌≤◌, length, get_or, List, [], ◌∷◌, ◌++◌, map, sym, refl, ap, ◌∙◌, subst, arith, Vec}
use Rattle.std.proofs.lemmas.List.{map-append}
use Rattle.std.proofs.lemmas.List.Elements.{All-push, All-nil}
use Rattle.std.specs.List.{All, sum_by}
use Rattle.std.proofs.lemmas.List.Sums.{sum_by-cons, sum_by_push}
use Rattle.std.specs.declared.alloc.Global.{Global}
use Rattle.oth_rules.specs.declared.scoring.Scoring.{Scoring}
use Rattle.oth_pieces.specs.declared.frontier.item.Item.{Item}
use Rattle.oth_pieces.specs.declared.reply.Reply.{Reply}
use Rattle.oth_pool.specs.declared.work.Work.{Work}
use Rattle.oth_pool.specs.declared.work.Duty.{Duty}
use Rattle.oth_pieces.specs.declared.tasks.state.Tasks.{Tasks}
use Rattle.oth_pieces.specs.declared.tasks.state.Hand.{Hand}
use Rattle.oth_pieces.specs.Hands.{IsHandOf, AreAllHands, list_of, number_of}
use Rattle.oth_pieces.specs.Drawn.{lists_of, times_in_all, AreOnce}
use Rattle.oth_pool.specs.declared.run.Gathered.{Gathered}
use Rattle.oth_pieces.proofs.Closings.{get_or_map, length_map}
use Rattle.oth_pieces.proofs.Handouts.{each_drew}
use Rattle.oth_pieces.specs.Dealing.{times}
use Rattle.oth_pool.specs.Working.{IsReplyOf, Holds, CanWork, AreGathered, numbers_of, hand_of, times_by}
use Rattle.oth_pieces.proofs.Dealings.{times-append}

module _ (items : List Item) (scoring : Scoring) (tasks : Tasks) (work : Work) (can : CanWork items scoring tasks work) (hand : Hand) (is_hand : IsHandOf tasks hand) where
  pub ended : list_of hand ≡ list_of work.hand → CanWork items scoring tasks (record work { hand = hand })
  ended same = record {
    hand = is_hand;
    holds = record {
      replies = can.holds.replies;
      once = λ x. let o = can.holds.once x in let s : times x (list_of hand) ≡ times x (list_of work.hand) = ap (times x) same in omega arith;
    };
  }

  pub drew : (number : ℕ) → list_of hand ≡ list_of work.hand ++ number ∷ [] → CanWork items scoring tasks (record work { hand = hand })
  drew number longer = record {
    hand = is_hand;
    holds = record {
      replies = can.holds.replies;
      once = λ x.
          let o = can.holds.once x in
          let s : times x (list_of hand) ≡ times x (list_of work.hand ++ number ∷ []) = ap (times x) longer in
          omega (arith, times-append x (list_of work.hand) (number ∷ []));
    };
  }

  pub replied : (number : ℕ) (replies : Vec Reply Global) (r : Reply) → list_of hand ≡ list_of work.hand ++ number ∷ [] → replies.items ≡ work.replies.items ++ r ∷ []
      → r.number ≡ number → IsReplyOf items scoring r → CanWork items scoring tasks (record { hand = hand; replies = replies })
  replied number replies r longer pushed is right = record {
    hand = is_hand;
    holds = record {
      replies = let P : List Reply → Type 0 = All (IsReplyOf items scoring) in subst P (sym pushed) (All-push (IsReplyOf items scoring) work.replies.items r can.holds.replies right);
      once = λ x.
          let o = can.holds.once x in
          let s : times x (list_of hand) ≡ times x (list_of work.hand ++ number ∷ []) = ap (times x) longer in
          let n : times x (numbers_of replies.items) ≡ times x (numbers_of work.replies.items ++ r.number ∷ []) =
          ap (λ l. times x (numbers_of l)) pushed ∙ ap (times x) (map-append (λ (q : Reply). q.number) work.replies.items (r ∷ [])) in
          let e : times x (r.number ∷ []) ≡ times x (number ∷ []) = ap (λ k. times x (k ∷ [])) is in
          omega (arith, times-append x (list_of work.hand) (number ∷ []), times-append x (numbers_of work.replies.items) (r.number ∷ []));
    };
  }

pub numbers_append : (x : ℕ) (xs ys : List Reply) → times x (numbers_of (xs ++ ys)) ≡ times x (numbers_of xs) + times x (numbers_of ys)
numbers_append x xs ys = ap (times x) (map-append (λ (q : Reply). q.number) xs ys) ∙ times-append x (numbers_of xs) (numbers_of ys)

-- what holds of a list whether or not it could be made longer
pub either_way : {X : Type 0} (P : List X → Type 0) (is_longer : Bool) (new old more : List X) → new ≡ cond is_longer (old ++ more) old → P old → P (old ++ more) → P new
either_way P true new old more is short long = subst P (sym is) long
either_way P false new old more is short long = subst P (sym is) short

pub no_replies : (items : List Item) (scoring : Scoring) (w : Work) → w.replies.items ≡ [] → Holds items scoring w
no_replies items scoring w none = record {
  replies = let P : List Reply → Type 0 = All (IsReplyOf items scoring) in subst P (sym none) (All-nil (IsReplyOf items scoring));
  once = λ x. let n : times x (numbers_of w.replies.items) ≡ 0 = ap (λ l. times x (numbers_of l)) none in omega arith;
}

-- the lists of the hands, and the work that they are of
pub times_lists : (x : ℕ) (works : List Work) (lists : List (List ℕ)) → lists ≡ map list_of (map hand_of works) → sum_by (times x) lists ≡ times_by x works
times_lists x works lists is = ap (sum_by (times x)) is ∙ sums works
  where
    sums : (ws : List Work) → sum_by (times x) (map list_of (map hand_of ws)) ≡ times_by x ws
    sums [] = refl
    sums (w ∷ ws) = let rest = sums ws in omega (arith, sum_by-cons (times x) (list_of (hand_of w)) (map list_of (map hand_of ws)), sum_by-cons (λ (v : Work). times x (list_of (hand_of v))) w ws)

times_vecs : (x : ℕ) (lists : List (Vec ℕ Global)) → sum_by (times x) (map (λ (l : Vec ℕ Global). l.items) lists) ≡ times_in_all x lists
times_vecs x [] = refl
times_vecs x (l ∷ ls) = let rest = times_vecs x ls in omega (arith, sum_by-cons (times x) l.items (map (λ (k : Vec ℕ Global). k.items) ls), sum_by-cons (λ (k : Vec ℕ Global). times x k.items) l ls)

-- what the workers found and what was drawn
pub gathered : (items : List Item) (scoring : Scoring) (count : ℕ) (works : List Work) (hands : List Hand) (g : Gathered) → count ≡ length items → AreOnce count g.drawn
    → lists_of g.drawn ≡ map list_of hands → hands ≡ map hand_of works
    → All (IsReplyOf items scoring) g.replies.items → ((x : ℕ) → times x (numbers_of g.replies.items) ≤ times_by x works) → AreGathered items scoring g
gathered items scoring count works hands g same drawn lists are replies once = record {
  drawn = let P : ℕ → Type 0 = λ n. AreOnce n g.drawn in subst P same drawn;
  replies = replies;
  once = λ x.
      let sum : sum_by (times x) (lists_of g.drawn) ≡ times_by x works = times_lists x works (lists_of g.drawn) (lists ∙ ap (map list_of) are) in
      let all = times_vecs x g.drawn.lists.items in
      let o = once x in omega arith;
}

pub All-longer : {X : Type 0} (P : X → Type 0) (xs ys : List X) (x : X) → ys ≡ xs ++ x ∷ [] → All P xs → P x → All P ys
All-longer P xs ys x e all one = subst (All P) (sym e) (All-push P xs x all one)

module _ {C G : Type 0} (items : List Item) (scoring : Scoring) (tasks : Tasks) where
  pub duties_can : (duties : List (Duty C G)) → AreAllHands tasks (map (λ (j : Duty C G). j.work.hand) duties) → All (λ (j : Duty C G). Holds items scoring j.work) duties → (i : ℕ) (d : Duty C G)
      → i < length duties → CanWork items scoring tasks (get_or duties i d).work
  duties_can duties all each i d below = record {
    hand =
        let P : Hand → Type 0 = IsHandOf tasks in
        let long = length_map (λ (j : Duty C G). j.work.hand) duties in
        subst P (get_or_map (λ (j : Duty C G). j.work.hand) duties i d d.work.hand below) (all.each i d.work.hand (omega arith)).0;
    holds = each i d below;
  }

  pub duties_did : (old new : List (Duty C G)) → AreAllHands tasks (map (λ (j : Duty C G). j.work.hand) old) → length new ≡ length old
      → ((i : ℕ) (d : Duty C G) → i < length old → CanWork items scoring tasks (get_or new i d).work)
      → ((i : ℕ) (d : Duty C G) → i < length old → number_of (get_or new i d).work.hand ≡ number_of (get_or old i d).work.hand)
      → AreAllHands tasks (map (λ (j : Duty C G). j.work.hand) new)
  duties_did [] new all long each same = let z = all.some in absurd (omega arith)
  duties_did (o ∷ os) new all long each same =
      let was : List Hand = map (λ (j : Duty C G). j.work.hand) (o ∷ os) in
      let now : List Hand = map (λ (j : Duty C G). j.work.hand) new in
      let a : length was ≡ length (o ∷ os) = length_map (λ (j : Duty C G). j.work.hand) (o ∷ os) in
      let b : length now ≡ length new = length_map (λ (j : Duty C G). j.work.hand) new in
      each_drew tasks was now all (b ∙ (long ∙ sym a))
      (λ i h below. let P : Hand → Type 0 = IsHandOf tasks in subst P (sym (get_or_map (λ (j : Duty C G). j.work.hand) new i o h (omega arith))) (each i o (omega arith)).hand)
      (λ i h below.
      ap number_of (get_or_map (λ (j : Duty C G). j.work.hand) new i o h (omega arith))
      ∙ (same i o (omega arith) ∙ sym (ap number_of (get_or_map (λ (j : Duty C G). j.work.hand) (o ∷ os) i o h (omega arith)))))

pub twice : {C G : Type 0} (js : List (Duty C G)) → map (λ (j : Duty C G). j.work.hand) js ≡ map hand_of (map (λ (j : Duty C G). j.work) js)
twice [] = refl
twice (j ∷ js) = ap (λ l. j.work.hand ∷ l) (twice js)

pub times_more : {C G : Type 0} (x : ℕ) (duties : List (Duty C G)) (j : Duty C G)
    → times_by x (map (λ (k : Duty C G). k.work) (duties ++ j ∷ [])) ≡ times_by x (map (λ (k : Duty C G). k.work) duties) + times x (list_of j.work.hand)
times_more {C} {G} x duties j =
    let e : map (λ (k : Duty C G). k.work) (duties ++ j ∷ []) ≡ map (λ (k : Duty C G). k.work) duties ++ j.work ∷ [] = map-append (λ (k : Duty C G). k.work) duties (j ∷ []) in
    ap (times_by x) e ∙ sum_by_push (λ (w : Work). times x (list_of (hand_of w))) (map (λ (k : Duty C G). k.work) duties) j.work
