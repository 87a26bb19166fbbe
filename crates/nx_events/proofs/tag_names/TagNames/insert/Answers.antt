use Rattle.nx_events.proofs.SeenNames.{came_before, names_behind}
use Rattle.nx_events.proofs.tag_names.TagNames.insert.Goals as goal

pub returns-clause-came : goal.returns-clause-came
returns-clause-came c =
    came_before c.args.self.now.names.keys (c.in_ok-from_slice.field-0, c.in_ok-from_slice-2.field-0) c.args.first.now c.args.second.now c.in_ok-added.added c.in_ok-from_slice.ensures.items c.in_ok-from_slice-2.ensures.items
    c.in_ok-added.ensures.added

pub returns-clause-names : goal.returns-clause-names
returns-clause-names c a b =
    names_behind c.args.self.now.names.keys c.insert.new.self.keys (c.in_ok-from_slice.field-0, c.in_ok-from_slice-2.field-0) c.args.first.now c.args.second.now a b c.in_ok-from_slice.ensures.items
    c.in_ok-from_slice-2.ensures.items c.in_ok-added.ensures.keys
