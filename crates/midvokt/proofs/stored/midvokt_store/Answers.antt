-- `midvokt_store` meets its contract: what `store` answers, in words.
use Rattle.std.proofs.Common.{rules, ap, ◌∙◌}
use lib.ListN.{length}
use Rattle.midvokt.specs.Reply.{laid_out}
use Rattle.midvokt.specs.Stored.{store_number, store_words}
use Rattle.midvokt.proofs.Laid.{store_told}
use Rattle.midvokt.proofs.stored.midvokt_store.Goals as goal

pub returns : goal.returns
returns c =
    let stored = c.store-stored.ensures.stores in record {
      number = c.reply_number.ensures ∙ store_told c.store-stored.result ∙ ap store_number stored.answer;
      result = c.lay_out.ensures ∙ ap (laid_out (length c.args.res.now)) (c.store_words.ensures ∙ ap store_words stored.answer);
      held = search rules;
      bytes = stored.bytes;
    }
