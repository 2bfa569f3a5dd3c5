use Rattle.std.proofs.Common.{◌≡◌, ◌∙◌, ◌<◌, ◌^◌, List, ℕ, length, arith, refl, sym, subst}
use Rattle.rpc_packet.specs.Outcomes.{AreTexts}
use Rattle.rpc_packet.specs.Packets.{number_at, bytes_at, texts_at}
use Rattle.rpc_packet.specs.declared.text_pair.TextPair.{TextPair}
use Rattle.rpc_packet.proofs.PacketValues.{response_values_fit}
use Rattle.rpc_packet.proofs.Taken.{byte_is, short_is, int_is, seven_of_eight, six_of_eight, status_stays, response_body_stays}
use Rattle.rpc_packet.proofs.reading.response_of.Goals as goal

pub short_at-version-requires : goal.short_at-version-requires
short_at-version-requires c = rw c.as_slice.ensures (response_values_fit c.args.values c.requires).version

pub kind_at-kind-requires : goal.kind_at-kind-requires
kind_at-kind-requires c = rw c.as_slice-2.ensures (response_values_fit c.args.values c.requires).kind

pub int_at-id-requires : goal.int_at-id-requires
int_at-id-requires c = rw c.as_slice-3.ensures (response_values_fit c.args.values c.requires).id

pub int_at-message-requires : goal.int_at-message-requires
int_at-message-requires c = rw c.as_slice-4.ensures (response_values_fit c.args.values c.requires).message

pub int_at-ret-requires : goal.int_at-ret-requires
int_at-ret-requires c = rw c.as_slice-5.ensures (response_values_fit c.args.values c.requires).ret

pub take_bytes-note-requires : goal.take_bytes-note-requires
take_bytes-note-requires c = omega (arith, (response_values_fit c.args.values c.requires).count)

pub take_texts-requires : goal.take_texts-requires
take_texts-requires c =
    omega (arith, seven_of_eight c.args.values c.take_bytes-note.new.values _ (response_values_fit c.args.values c.requires).count c.take_bytes-note.ensures.rest refl)

pub take_bytes-body-requires : goal.take_bytes-body-requires
take_bytes-body-requires c =
    omega (arith, six_of_eight c.args.values c.take_bytes-note.new.values c.take_texts.new.values (response_values_fit c.args.values c.requires).count c.take_bytes-note.ensures.rest c.in_ok-status.ensures.rest)

module _ (c : goal.After-drop-values-inside-2) where
  status_is : c.in_ok-status.status ≡ texts_at c.args.values 6
  status_is =
      c.in_ok-status.ensures.said
      ∙ status_stays c.args.values c.take_bytes-note.new.values c.take_texts.new.values (response_values_fit c.args.values c.requires).count c.take_bytes-note.ensures.rest c.in_ok-status.ensures.rest

  body_is : c.take_bytes-body.result ≡ bytes_at c.args.values 5
  body_is =
      c.take_bytes-body.ensures.said
      ∙ response_body_stays c.args.values c.take_bytes-note.new.values c.take_texts.new.values (response_values_fit c.args.values c.requires).count c.take_bytes-note.ensures.rest c.in_ok-status.ensures.rest

pub returns-clause-said : goal.returns-clause-said
returns-clause-said c =
    let values = c.args.values in
    rw (
      short_is c.short_at-version.result (number_at values 0) c.short_at-version.type_inv (rw c.as_slice.ensures at c.short_at-version.ensures),
      byte_is c.kind_at-kind.result (number_at values 1) c.kind_at-kind.type_inv (rw c.as_slice-2.ensures at c.kind_at-kind.ensures),
      int_is c.int_at-id.result (number_at values 2) c.int_at-id.type_inv (rw c.as_slice-3.ensures at c.int_at-id.ensures),
      int_is c.int_at-message.result (number_at values 3) c.int_at-message.type_inv (rw c.as_slice-4.ensures at c.int_at-message.ensures),
      int_is c.int_at-ret.result (number_at values 4) c.int_at-ret.type_inv (rw c.as_slice-5.ensures at c.int_at-ret.ensures),
      body_is c,
      status_is c,
      c.take_bytes-note.ensures.said,
    ) refl

pub returns-clause-fits : goal.returns-clause-fits
returns-clause-fits c =
    let fit = response_values_fit c.args.values c.requires in
    record {
      body = subst (λ (bytes : List ℕ). length bytes < 2 ^ 31) (sym (body_is c)) fit.body;
      status = subst (λ (texts : List TextPair). AreTexts texts) (sym (status_is c)) fit.status;
      note = subst (λ (bytes : List ℕ). length bytes < 2 ^ 32) (sym c.take_bytes-note.ensures.said) fit.note;
    }
