use Rattle.replay_lists.proofs.Laws.{cut_none, cut_one, cut_more, cut_three}
use Rattle.replay_lists.proofs.parts_of.Goals as goal

pub returns-then-v-one : goal.returns-then-v-one
returns-then-v-one c = cut_none c.args.v.now c.find-one.result c.find-one.ensures c.if-v-one.true

pub returns-then-v-two : goal.returns-then-v-two
returns-then-v-two c = cut_one c.args.v.now c.find-one.result c.find-one.ensures c.find-two.result c.if-v-one.false c.find-two.ensures c.if-v-two.true

pub returns-then-three-v : goal.returns-then-three-v
returns-then-three-v c =
    cut_more c.args.v.now c.find-one.result c.find-one.ensures c.find-two.result c.if-v-one.false c.find-two.ensures c.find-three.result c.if-v-two.false c.find-three.ensures c.if-three-v.true

pub returns : goal.returns
returns c =
    cut_three c.args.v.now c.find-one.result c.find-one.ensures c.find-two.result c.if-v-one.false c.find-two.ensures c.find-three.result c.if-v-two.false c.find-three.ensures c.if-three-v.false
