use Rattle.qdimacs.proofs.Made.{enough_blocks, enough_variables, draft_gives, if_ok_by}
use Rattle.qdimacs.proofs.read.draft_of.Goals as goal

pub make_draft-requires-clause-blocks : goal.make_draft-requires-clause-blocks
make_draft-requires-clause-blocks c =
    enough_blocks c.args.file _ c.file.view_is c.args.free c.in_ok-blocks.blocks.items c.as_slice.result.now c.as_slice.ensures.value c.in_ok-blocks.ensures c.requires.free c.requires.good c.requires.numbers

pub make_draft-requires-clause-few : goal.make_draft-requires-clause-few
make_draft-requires-clause-few c =
    enough_variables c.args.file _ c.file.view_is c.args.free c.in_ok-blocks.blocks.items c.as_slice.result.now c.as_slice.ensures.value c.in_ok-blocks.ensures c.requires.free c.requires.good c.requires.numbers

pub returns : goal.returns
returns c =
    if_ok_by c.make_draft.result _ _
    (draft_gives c.args.file _ c.file.view_is c.args.free c.in_ok-blocks.blocks.items c.as_slice.result.now c.as_slice.ensures.value c.in_ok-blocks.ensures c.requires.free c.requires.good c.requires.numbers c.as_slice-2.result.now c.as_slice-2.ensures.value)
    c.make_draft.ensures
