use Rattle.std.proofs.Common.{refl, ◌∙◌, arith}
use Rattle.std.proofs.lemmas.Int.{ints}
use Rattle.oth_search.specs.Root.Scores.{place_of}
use Rattle.oth_search.proofs.OrderingLemmas.Orders.{listed-start, listed-more, listed-end, listed-legal, room}
use Rattle.oth_search.proofs.RootLemmas.Scored.{scored-start, scored-more, scored-exactly}
use Rattle.oth_search.proofs.root.scores.scored_moves.Goals as goal

pub loop-rest-init : goal.loop-rest-init
loop-rest-init g c = record {
  listed = listed-start place_of c.args.board.now _ _ c.new-found.ensures c.moves-rest.ensures;
  scores = scored-start c.args.board.now c.args.scoring _ c.new-found.ensures;
  same = refl;
}

pub play_legal-child-requires : goal.play_legal-child-requires
play_legal-child-requires g c =
    listed-legal place_of c.args.board.now _ c.loop-rest.rest c.first-square.result c.without-rest.result c.loop-rest.invariant.listed c.first-square.ensures.member
    c.without-rest.ensures.rest c.first-square.ensures.least

pub push-requires : goal.push-requires
push-requires g c = (
  omega arith,
  room place_of c.args.board.now _ c.loop-rest.rest c.first-square.result c.without-rest.result c.loop-rest.invariant.listed c.first-square.ensures.member c.without-rest.ensures.rest
      c.first-square.ensures.least,
)

pub loop-rest-preserved : goal.loop-rest-preserved
loop-rest-preserved g c =
    let p = c.args.board.now in
    let by = c.args.scoring in
    let r = c.exact-reply.result in
    let legal =
    listed-legal place_of p _ c.loop-rest.rest c.first-square.result c.without-rest.result c.loop-rest.invariant.listed c.first-square.ensures.member c.without-rest.ensures.rest
    c.first-square.ensures.least in
    record {
      listed =
          listed-more place_of p c.loop-rest.found.items _ _ c.loop-rest.rest c.first-square.result c.without-rest.result c.loop-rest.invariant.listed c.push.ensures.items refl
          c.first-square.ensures.member c.without-rest.ensures.rest c.first-square.ensures.least;
      scores = scored-more p by c.loop-rest.found.items _ _ c.loop-rest.invariant.scores c.push.ensures.items (record {
        legal = legal;
        score = scored-exactly p r.board by r.scoring c.first-square.result r.interval.lower r.interval.upper _
            (c.exact-reply.ensures.board ∙ c.bounds_among-told.ensures.board ∙ c.play_legal-child.ensures)
            (c.exact-reply.ensures.scoring ∙ c.bounds_among-told.ensures.scoring)
            r.encloses
            c.exact-reply.ensures.exact
            (omega (arith, ints));
      });
      same = c.exact-reply.ensures.fixed ∙ c.loop-rest.invariant.same;
    }

pub returns : goal.returns
returns g c = record {
  scores = record {
    squares = listed-end place_of c.args.board.now _ c.loop-rest.rest c.loop-rest.invariant.listed c.loop-rest-test.false;
    scores = c.loop-rest.invariant.scores;
  };
  fixed = c.loop-rest.invariant.same;
}
